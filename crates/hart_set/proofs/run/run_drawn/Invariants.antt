use Rattle.std.proofs.Common.{◌≡◌, ◌≤◌, ◌-◌, length, None}
use Rattle.seed_words.specs.Words.{seeded, after}
use Rattle.hart_set.specs.Choosers.{names_in}
use Rattle.hart_set.proofs.DrawnSlots.{OnTheWay}
use Rattle.hart_set.proofs.run.run_drawn.Given as goal

abbrev pub invariant-loop : goal.invariant-loop
invariant-loop l = record {
  image : l.harts.0 ≡ l.fn.harts.0;
  all : l.harts.1.off ≡ None;
  words : l.words ≡ after l.counter (seeded l.fn.seed);
  four : length l.owed ≡ 4;
  few : l.names.many ≤ 4;
  way : OnTheWay l.harts l.fn.seed l.fn.slots l.counter (l.most - l.counter) l.owed (names_in l.names);
}
