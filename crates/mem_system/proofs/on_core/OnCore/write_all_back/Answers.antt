-- A place is written back where it has a dirty line, of which one less is left then.
use Rattle.std.proofs.Common.{◌≡◌, ◌∙◌, ◌<◌, ◌*◌, ◌+◌, ℕ, List, length, drop, get_or, Option, None, sym, ap, subst, arith}
use Rattle.std.proofs.lemmas.List.{drop_all}
use Rattle.set_cache.specs.declared.KeptLine.{KeptLine}
use Rattle.set_cache.specs.Cache.{dirty_number, with_number, dirty_numbers}
use Rattle.set_cache.specs.Lines.{dirty_kept, places_kept}
use Rattle.set_cache.proofs.Marks.{dirty_kept-length}
use Rattle.l2_colour.specs.Contents.{L2Contents}
use Rattle.mem_system.specs.Contents.{CoreContents}
use Rattle.mem_system.proofs.WriteBacks.{Front, none_written, front_none, front_skips, front_goes, front_ends, left_after}
use Rattle.mem_system.proofs.on_core.OnCore.write_all_back.Goals.{in-Some, in_default}
use Rattle.mem_system.proofs.on_core.OnCore.write_all_back.Goals as goal

pub returns-then-not-back-clause-steps : goal.returns-then-not-back-clause-steps
returns-then-not-back-clause-steps g c =
    none_written g.P.Policy.rule g.P.Policy.stands_for c.args.self.now c.args.l2.now
    (sym c.back.ensures.value ∙ c.if-not-back.true)

pub loop-place-init : goal.loop-place-init
loop-place-init g c =
    let core : CoreContents _ = c.args.self.now in
    record {
      front = front_none g.P.Policy.rule g.P.Policy.stands_for core c.args.l2.now;
      left =
          subst (λ (k : CoreContents _). c.dirty-left.result ≡ dirty_kept k.l1d) c.self.view_is c.dirty-left.ensures.here
          ∙ dirty_kept-length core.l1d;
      within = omega arith;
      ends = subst (λ (k : CoreContents _). c.places-place-end.result ≡ length (places_kept k.l1d.table)) c.self.view_is
          c.places-place-end.ensures.value;
      table = subst (λ (k : CoreContents _). c.places-place-end.result ≡ length k.l1d.table * k.l1d.ways) c.self.view_is
          c.places-place-end.ensures.table;
    }

pub returns-then-left-eq0-clause-same : goal.returns-then-left-eq0-clause-same
returns-then-left-eq0-clause-same g c = c.loop-place.invariant.front.same

pub returns-then-left-eq0-clause-steps : goal.returns-then-left-eq0-clause-steps
returns-then-left-eq0-clause-steps g c =
    let at = c.loop-place in
    front_ends g.P.Policy.rule g.P.Policy.stands_for c.args.self.now at.place c.args.l2.now at.l2
    (sym at.invariant.left ∙ c.if-left-eq0.true) at.invariant.front

pub loop-place-preserved : goal.loop-place-preserved
loop-place-preserved g c =
    let core : CoreContents _ = c.args.self.now in
    let places : List (Option KeptLine) = places_kept core.l1d.table in
    let at = c.loop-place in
    let old : L2Contents _ = c.args.l2.now in
    let lt : at.place < length places = omega (arith, c.loop-place-test.true, at.invariant.ends) in
    let listed : c.dirty_at.result ≡ dirty_number (get_or places at.place None) =
    subst (λ (k : CoreContents _). c.dirty_at.result ≡ dirty_number (get_or (places_kept k.l1d.table) at.place None))
    c.self.view_is c.dirty_at.ensures.listed in
    let rest : List ℕ = dirty_numbers (drop (at.place + 1) places) in
    let left = left_after places at.place lt c.dirty_at.result at.left listed at.invariant.left in
    record {
      front = elim c.match-dirty_at.branch [
        | in-Some w ↦
            subst (Front g.P.Policy.rule g.P.Policy.stands_for core (at.place + 1) old) (sym w.l2-is)
            (front_goes g.P.Policy.rule g.P.Policy.stands_for core at.place w.in-Some.line old at.l2 w.write_back.new.l2 lt
            (sym w.in-Some.is ∙ listed) at.invariant.front w.write_back.ensures.same w.write_back.ensures.steps)
        | in_default w ↦
            subst (Front g.P.Policy.rule g.P.Policy.stands_for core (at.place + 1) old) (sym w.l2-is)
            (front_skips g.P.Policy.rule g.P.Policy.stands_for core at.place old at.l2 lt (sym w.in_default.is ∙ listed)
            at.invariant.front)
      ];
      left = elim c.match-dirty_at.branch [
        | in-Some w ↦
            let one = ap (λ (o : Option ℕ). length (with_number o rest)) w.in-Some.is in
            omega (arith, w.left-is, left, one)
        | in_default w ↦ w.left-is ∙ left ∙ ap (λ (o : Option ℕ). length (with_number o rest)) w.in_default.is
      ];
      within = omega (arith, c.loop-place-test.true);
      ends = at.invariant.ends;
      table = at.invariant.table;
    }

pub returns-clause-same : goal.returns-clause-same
returns-clause-same g c = c.loop-place.invariant.front.same

pub returns-clause-steps : goal.returns-clause-steps
returns-clause-steps g c =
    let at = c.loop-place in
    let places : List (Option KeptLine) = places_kept c.args.self.now.l1d.table in
    let none : length (dirty_numbers (drop at.place places)) ≡ 0 =
    ap (λ (ps : List (Option KeptLine)). length (dirty_numbers ps))
    (drop_all at.place places (omega (arith, c.loop-place-test.false, at.invariant.ends))) in
    front_ends g.P.Policy.rule g.P.Policy.stands_for c.args.self.now at.place c.args.l2.now at.l2 none at.invariant.front
