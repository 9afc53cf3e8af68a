use Rattle.std.proofs.Common.{◌∙◌, ℕ, List, All, length, refl, sym, ap, subst, arith}
use Rattle.std.proofs.lemmas.Result.{IfOk-from_err}
use Rattle.mem_system.specs.Hierarchy.{Hierarchy}
use Rattle.mail_slots.specs.Boxes.{opening}
use Rattle.hardware_check.specs.Hardware.{IsHardware}
use Rattle.image_check.specs.Public.{Public}
use Rattle.image_check.specs.Image.{image_from}
use Rattle.hart_orders.specs.Off.{levels_by}
use Rattle.hart_set.specs.declared.set.State.{State}
use Rattle.hart_orders.specs.Cold.{IsColdHart}
use Rattle.hart_set.proofs.Turning.{one_each}
use Rattle.hart_set.proofs.Loaded.{IsLoaded, stands_first, reached_first}
use Rattle.hart_set.proofs.set.HartSet.load_by.Goals as goal

abbrev state : (c : goal.In-Ok) → State
state c = record {
  off = c.args.off;
  memory = c.in-Ok.opened.0;
  l2 = c.in_ok-l2.l2;
  harts = c.in_ok-l2.harts;
  domains = c.in-Ok.opened.1;
  mail = c.in_ok-mail.mail;
  used = c.in_ok-used.used;
}

loaded : (c : goal.In-Ok) → IsLoaded (image_from c.args.image.now) (state c)
loaded c =
    let i = image_from c.args.image.now in
    let public = c.public-public.ensures.value in
    let one = one_each c.public-public.result.now i.all public in
    record {
      frames = c.in-Ok.ensures.size;
      holds = c.in-Ok.ensures.holds;
      boxes = c.in_ok-mail.ensures.opening ∙ ap opening c.as_slice.ensures.value ∙ ap (λ (p : Public). opening p.mail) public;
      all_harts = omega (arith, c.in_ok-l2.ensures.all, c.len-2.ensures, one);
      cold =
          subst (λ (h : Hierarchy). All (IsColdHart h c.in_ok-l2.l2) c.in_ok-l2.harts.items)
          (ap (λ (p : Public). levels_by c.args.off p.hardware) public) c.in_ok-l2.ensures.each;
      entered = c.in-Ok.ensures.entered;
      all_entries =
          c.in_ok-used.ensures.all ∙ c.len.ensures.value ∙ ap (λ (p : Public). length p.schedule) public;
      unused = c.in_ok-used.ensures.unused;
    }

pub new-requires : goal.new-requires
new-requires c =
    let few = c.runnable.ensures.runnable.boxes.few in
    let read = ap (λ (boxes : List (ℕ × ℕ)). length boxes) c.as_slice.ensures.value in
    let same = ap (λ (p : Public). length p.mail) c.public-public.ensures.value in
    record { few = omega (arith, few, read, same) }

pub cold_caches-requires : goal.cold_caches-requires
cold_caches-requires c = record {
  hardware =
      subst (λ (p : Public). IsHardware p.hardware) (sym c.public-public.ensures.value)
      c.runnable.ensures.runnable.hardware;
}

pub invariant_of-result : goal.invariant_of-result
invariant_of-result c = reached_first (image_from c.args.image.now) c.runnable.ensures.runnable (state c) (loaded c) c.requires.served

pub returns : goal.returns
returns c = record {
  image = refl;
  off = refl;
  stands = stands_first (image_from c.args.image.now) c.runnable.ensures.runnable (state c) (loaded c);
}

-- where memory ran out

pub returns-in_err-used : goal.returns-in_err-used
returns-in_err-used c = record {
  image = IfOk-from_err c.from_residual.result _ c.from_residual.ensures.0;
  off = IfOk-from_err c.from_residual.result _ c.from_residual.ensures.0;
  stands = IfOk-from_err c.from_residual.result _ c.from_residual.ensures.0;
}

pub returns-in_err-mail : goal.returns-in_err-mail
returns-in_err-mail c = record {
  image = IfOk-from_err c.from_residual-in_err-mail.result _ c.from_residual-in_err-mail.ensures.0;
  off = IfOk-from_err c.from_residual-in_err-mail.result _ c.from_residual-in_err-mail.ensures.0;
  stands = IfOk-from_err c.from_residual-in_err-mail.result _ c.from_residual-in_err-mail.ensures.0;
}

pub returns-in_err-l2 : goal.returns-in_err-l2
returns-in_err-l2 c = record {
  image = IfOk-from_err c.from_residual-in_err-l2.result _ c.from_residual-in_err-l2.ensures.0;
  off = IfOk-from_err c.from_residual-in_err-l2.result _ c.from_residual-in_err-l2.ensures.0;
  stands = IfOk-from_err c.from_residual-in_err-l2.result _ c.from_residual-in_err-l2.ensures.0;
}

pub returns-in-Err : goal.returns-in-Err
returns-in-Err c = record { image = tt; off = tt; stands = tt }
