-- What is seen of a domain of the code.
use Rattle.std.specs.Prelude.{map}
use Rattle.phys_mem.specs.Contents.{Contents, frame_words}
use Rattle.frame_colours.specs.Colours.{pool}
use Rattle.thread_set.specs.Models.{threads_model}
use Rattle.thread_set.specs.Threads.{all_of}
use Rattle.kernel_call.specs.LogModel.{log_model}
use Rattle.kernel_call.specs.declared.domain.Domain.{Domain}
use Rattle.world_view.specs.View as view

-- in its memory
abbrev pub seen_of : Domain → Contents → view.View
seen_of d memory = record {
  status = d.status;
  retired = d.retired;
  threads = all_of (threads_model d.threads);
  readings = log_model d.readings;
  replies = log_model d.replies;
  printed = d.printed.items;
  pool = pool d.pool.share;
  frames = map (frame_words memory) (pool d.pool.share);
}
