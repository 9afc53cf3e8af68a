use Rattle.std.proofs.Common.{◌≡◌, ◌+◌, ◌≤◌, ◌++◌, length, take, drop}
use Rattle.domain_open.specs.Placing.{AreZeroed}
use Rattle.image_check.specs.Models.{own_model}
use Rattle.image_check.specs.Pages.{pages_in}
use Rattle.domain_open.specs.Giving.{slots_after, unnamed}
use Rattle.domain_open.proofs.giving.give_pages.Given as goal

abbrev pub invariant-loop-place : goal.invariant-loop-place
invariant-loop-place l =
    let o = own_model l.own in
    let frames = l.fn.pool.free in
    record {
      caps : l.caps ≡ slots_after o frames l.place;
      kept : l.kept.items
          ≡ l.fn.kept.items ++ unnamed (slots_after o frames (pages_in o.segments)) (take l.place frames);
      long : length l.kept.items ≤ length l.fn.kept.items + l.place;
      room : l.kept.cap ≡ l.fn.kept.cap;
      free : l.pool.free ≡ drop l.place frames;
      share : l.pool.share ≡ l.fn.pool.share;
      zeroed : AreZeroed (take l.place frames) l.fn.memory l.memory;
      size : l.memory.frames ≡ l.fn.memory.frames;
    }
