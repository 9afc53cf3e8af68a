use Rattle.std.proofs.Common.{◌≡◌, ◌∙◌, ap, ℕ, nat_eq, arith}
use Rattle.sched_table.specs.Schedule.{harts_in, hart_schedules}
use Rattle.image_check.specs.Public.{Public}
use Rattle.image_check.specs.Image.{image_from}
use Rattle.world_view.proofs.harts.Schedules.{one_each}
use Rattle.domain_step.proofs.harts.has_one_hart.Goals as goal

pub returns : goal.returns
returns c =
    let es = (image_from c.args.image.now).all.schedule in
    let p = c.public.result.now in
    let all : p.harts.items ≡ hart_schedules es = p.each_hart ∙ ap (λ (q : Public). hart_schedules q.schedule) c.public.ensures.value in
    let every = one_each es p.harts.items all in
    let many : c.len.result ≡ harts_in es = omega (arith, c.len.ensures, every) in
    record { value = ap (λ (n : ℕ). nat_eq n 1) many }
