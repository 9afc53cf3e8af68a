use Rattle.std.proofs.Common.{get_or, ◌≡◌, ◌<◌, ◌∙◌, ap, ap₂, sym, subst, ℕ, List, Bool, true, false, length, map, arith, eq-eqb, ne_eqb}
use Rattle.std.proofs.lemmas.List.{get_or_default, length-map}
use Rattle.std.specs.Prelude.{nat_eq, if◌then◌else◌}
use Rattle.tp_io.specs.Sink.{state}
use Rattle.sched_table.specs.declared.schedule.Entry.{Entry}
use Rattle.sched_table.specs.Schedule.{no_entry}
use Rattle.pad_bound.specs.Bound.{MachineShape}
use Rattle.pad_bound.specs.Models.{shape_model}
use Rattle.image_check.specs.Public.{Public}
use Rattle.image_check.specs.Own.{Own}
use Rattle.image_check.specs.Pads.{shape_for_every_call}
use Rattle.image_check.specs.Image.{Image, image_from}
use Rattle.tp_report.specs.Report.{bound_in_parts, bound_text, bound_2_text, bounds_of}
use Rattle.tp_answer.specs.TopCall.{Delivers}
use Rattle.tp_answer.specs.declared.status.Status.TheVariants.{Done}
use Rattle.tp_answer.proofs.Answers.{delivered, nothing_held}
use Rattle.tp_answer.proofs.bounds.write_bounds.Goals as goal

-- which text it is, by the version
by_version : (i : Image) (b : Bool) → nat_eq i.all.version 1 ≡ b
    → bounds_of i ≡ (if b then bound_text (bound_in_parts (shape_for_every_call i.all.hardware))
    else bound_2_text (shape_for_every_call i.all.hardware) i.all.schedule (map (λ (o : Own). o.calls) i.owns))
unfolding bounds_of
by_version i b is =
    ap (λ (t : Bool). if t then bound_text (bound_in_parts (shape_for_every_call i.all.hardware))
    else bound_2_text (shape_for_every_call i.all.hardware) i.all.schedule (map (λ (o : Own). o.calls) i.owns)) is

pub returns-then-public-eq1 : goal.returns-then-public-eq1
unfolding bound_in_parts
returns-then-public-eq1 g c =
    let i = image_from c.args.image.now in
    let b = c.bound.ensures in
    let first : i.all.version ≡ 1 = sym (ap (λ (p : Public). p.version) c.public-public.ensures.value) ∙ c.if-public-eq1.true in
    let parts : c.bound.result ≡ bound_in_parts (shape_model c.shape-shape.result) = λ k. record {
      instruction = b.instruction k;
      operation = b.operation k;
      leave = b.leave k;
      prefetch = b.prefetch k;
      flush = b.flush k;
      enter = b.enter k;
      total = b.total k;
    } in
    let text =
    ap bound_text (parts ∙ ap bound_in_parts c.shape-shape.ensures.value)
    ∙ sym (by_version i true (eq-eqb i.all.version 1 first)) in
    record {
      delivers =
          subst (λ (t : List ℕ). Delivers (Done, t) c.status_unless_failed.result
          (state g.K.Sink c.args.out.now) (state g.K.Sink c.write_bound.new.out)) text
          (delivered Done c.status_unless_failed.result _ _ _ c.write_bound.result tt
          c.write_bound.ensures.sends c.status_unless_failed.ensures.ok c.status_unless_failed.ensures.err);
    }

pub write_bound_2-written-requires-clause-named : goal.write_bound_2-written-requires-clause-named
write_bound_2-written-requires-clause-named g c k e below =
    let i = image_from c.args.image.now in
    let es = c.public-public.result.now.schedule in
    let same : es ≡ i.all.schedule = ap (λ (p : Public). p.schedule) c.public-public.ensures.value in
    let named = c.kept.ensures.named.named k (subst (λ (es : List Entry). k < length es) same below) in
    let entry = ap (λ (x : Entry). x.domain) (get_or_default es k e no_entry below ∙ ap (λ (es : List Entry). get_or es k no_entry) same) in
    let long = ap length (c.as_slice.ensures.value ∙ c.in-Ok.ensures.calls) ∙ length-map i.owns (λ (o : Own). o.calls) in
    omega (arith, named, entry, long)

pub returns-in-Ok : goal.returns-in-Ok
returns-in-Ok g c =
    let i = image_from c.args.image.now in
    let other : nat_eq i.all.version 1 ≡ false =
    ne_eqb i.all.version 1 (λ e. c.if-public-eq1.false (ap (λ (p : Public). p.version) c.public-public.ensures.value ∙ e)) in
    let calls = c.as_slice.ensures.value ∙ c.in-Ok.ensures.calls in
    let es = ap (λ (p : Public). p.schedule) c.public-public.ensures.value in
    let text : bound_2_text (shape_model c.shape-shape.result) c.public-public.result.now.schedule c.as_slice.result.now ≡ bounds_of i =
    ap (λ (s : MachineShape). bound_2_text s c.public-public.result.now.schedule c.as_slice.result.now) c.shape-shape.ensures.value
    ∙ ap₂ (λ (es : List Entry) (calls : List ℕ). bound_2_text (shape_for_every_call i.all.hardware) es calls)
    es calls ∙ sym (by_version i false other) in
    record {
      delivers =
          subst (λ (t : List ℕ). Delivers (Done, t) c.status_unless_failed-in-Ok.result
          (state g.K.Sink c.args.out.now) (state g.K.Sink c.write_bound_2-written.new.out)) text
          (delivered Done c.status_unless_failed-in-Ok.result _ _ _ c.write_bound_2-written.result tt
          c.write_bound_2-written.ensures.sends c.status_unless_failed-in-Ok.ensures.ok
          c.status_unless_failed-in-Ok.ensures.err);
    }

pub returns-in-Err : goal.returns-in-Err
returns-in-Err g c = record { delivers = nothing_held _ _ }
