-- What is kept where a guard is off.
use Rattle.std.proofs.Common.{ℕ, refl, ap}
use Rattle.std.specs.Prelude.{◌/◌}
use Rattle.guards.specs.declared.Guard.{Guard}
use Rattle.guards.specs.declared.Guard.TheVariants as guard
use Rattle.mem_system.specs.Hierarchy.{Hierarchy}
use Rattle.mem_system.specs.Cost.{Caches, touched, pass_on, on_core, below_all}
use Rattle.image_check.specs.Image.{Image}
use Rattle.world_view.specs.Cost.{hierarchy}
use Rattle.world_view.specs.Machine.{guarded, without, flush_by}
use Rattle.tp_machine.specs.GuardLaws.{KeepsOthers, SameParts, HasSetsOfAFrame, KeepsAllButBuffer}

pub keeps_others : (i : Image) (off : Guard) → KeepsOthers i off
unfolding guarded
keeps_others i guard.Flush = record {
  flush = λ n. absurd (n refl);
  prefetch = λ n. refl;
  pad = λ n. refl;
  levels = λ n. refl;
  clone = λ n d. refl;
  irq = λ n. refl;
}
keeps_others i guard.Prefetch = record {
  flush = λ n. refl;
  prefetch = λ n. absurd (n refl);
  pad = λ n. refl;
  levels = λ n. refl;
  clone = λ n d. refl;
  irq = λ n. refl;
}
keeps_others i guard.Pad = record {
  flush = λ n. refl;
  prefetch = λ n. refl;
  pad = λ n. absurd (n refl);
  levels = λ n. refl;
  clone = λ n d. refl;
  irq = λ n. refl;
}
keeps_others i guard.Colour = record {
  flush = λ n. refl;
  prefetch = λ n. refl;
  pad = λ n. refl;
  levels = λ n. absurd (n refl);
  clone = λ n d. refl;
  irq = λ n. refl;
}
keeps_others i guard.Clone = record {
  flush = λ n. refl;
  prefetch = λ n. refl;
  pad = λ n. refl;
  levels = λ n. refl;
  clone = λ n d. absurd (n refl);
  irq = λ n. refl;
}
keeps_others i guard.Irq = record {
  flush = λ n. refl;
  prefetch = λ n. refl;
  pad = λ n. refl;
  levels = λ n. refl;
  clone = λ n d. refl;
  irq = λ n. absurd (n refl);
}

-- a hierarchy, and the same with other sets of the second level
same_but_sets : (h : Hierarchy) (count : ℕ) → SameParts (record h { l2 = record h.l2 { count = count } }) h
same_but_sets h count = record {
  costs = refl;
  products = refl;
  line_size = refl;
  back = refl;
  predictor = refl;
  l1i = refl;
  l1d = refl;
  tlb = refl;
  rule = refl;
  ways = refl;
}

pub same_parts : (i : Image) (off : Guard) → SameParts (without off i).levels (hierarchy i.all.hardware)
unfolding guarded
same_parts i guard.Flush = same_but_sets (hierarchy i.all.hardware) (hierarchy i.all.hardware).l2.count
same_parts i guard.Prefetch = same_but_sets (hierarchy i.all.hardware) (hierarchy i.all.hardware).l2.count
same_parts i guard.Pad = same_but_sets (hierarchy i.all.hardware) (hierarchy i.all.hardware).l2.count
same_parts i guard.Colour = same_but_sets (hierarchy i.all.hardware) (4096 / i.all.hardware.line)
same_parts i guard.Clone = same_but_sets (hierarchy i.all.hardware) (hierarchy i.all.hardware).l2.count
same_parts i guard.Irq = same_but_sets (hierarchy i.all.hardware) (hierarchy i.all.hardware).l2.count

pub sets_of_a_frame : (i : Image) → HasSetsOfAFrame i
unfolding guarded
sets_of_a_frame i = record {
  of_16 = λ e. ap (λ line. 4096 / line) e;
  of_32 = λ e. ap (λ line. 4096 / line) e;
  of_64 = λ e. ap (λ line. 4096 / line) e;
  of_128 = λ e. ap (λ line. 4096 / line) e;
}

pub keeps_all_but_buffer : (i : Image) (c : Caches) → KeepsAllButBuffer c (flush_by (without guard.Flush i) c)
unfolding guarded flush_by touched pass_on on_core below_all
keeps_all_but_buffer i c = record { cost = refl; l1i = refl; l1d = refl; guesses = refl; l2 = refl }
