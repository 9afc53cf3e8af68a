use Rattle.std.proofs.Common.{◌∙◌, ℕ, ap, arith}
use Rattle.std.specs.Prelude.{slice_index_or}
use Rattle.sched_table.specs.Schedule.{entries_alone, hart_for}
use Rattle.world_view.proofs.harts.Schedules.{one_each, own_entries}
use Rattle.alone_run.proofs.hart.schedule_for.Goals as goal

pub index-requires : goal.index-requires
index-requires c =
    let public = c.args.public.now in
    let all = one_each public.schedule public.harts.items public.each_hart in
    omega (arith, all, c.from.ensures, c.hart_for.ensures.there)

pub returns : goal.returns
returns c =
    let public = c.args.public.now in
    let h = hart_for public.schedule c.args.d in
    let own = own_entries public.schedule public.harts.items public.each_hart h c.index.result.now
    (omega (arith, c.hart_for.ensures.value, c.hart_for.ensures.there))
    (c.index.ensures
    ∙ ap (λ (n : ℕ). slice_index_or public.harts.items n c.index.result.now)
    (c.from.ensures ∙ c.hart_for.ensures.value)) in
    record { entries = ap entries_alone own }
