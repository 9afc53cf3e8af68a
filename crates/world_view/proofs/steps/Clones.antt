-- What a step leaves of the domain and of memory depends neither on the caches' sizes nor on which kernel clone works for it.
use Rattle.mail_slots.specs.Sides.{others_side}
use Rattle.std.proofs.Common.{◌≡◌, ℕ, Bool, false, Option, Some, None, ◌⊎◌, inl, inr, refl, sym, ap, subst₂, ◌∙◌}
use Rattle.tp_base.specs.Act.{Done, go_on, ◌>>=◌, ◌>>◌, either}
use Rattle.phys_mem.specs.Mem.{frame_at}
use Rattle.rv_decode.specs.Table.{decode_of}
use Rattle.rv_decode.specs.declared.Instr.{Instr}
use Rattle.rv_decode.specs.declared.Instr.TheVariants as instr
use Rattle.sv32_walk.specs.declared.access.Access.TheVariants as access
use Rattle.hardware_check.specs.Hardware.{Hardware}
use Rattle.image_check.specs.Own.{Own}
use Rattle.kernel_clone.specs.Footprints.{Layout}
use Rattle.mem_system.specs.Hierarchy.{Hierarchy}
use Rattle.mem_system.specs.Cost.{Touch, Fetch}
use Rattle.call_table.specs.Domain.{Dom}
use Rattle.call_table.specs.Claims.{Estate}
use Rattle.world_view.specs.Kernel.{estate, layout}
use Rattle.world_view.specs.Event.{Storage, Act, touch, translate, place, line_in, read, make_call, perform, instruction, Event, event}
use Rattle.world_view.specs.Event.Event.{Jump, Deliver, Run}
use Rattle.world_view.specs.Machine.{Setting, setting, Local, paid, delivered, happened, step, steps}
use Rattle.world_view.specs.Relations.{IsKernel, HasFacts}
use Rattle.world_view.proofs.steps.Fuel.{steps_by}
use Rattle.world_view.proofs.steps.StepLaws.{Keeps, step_keeps}

-- ---- an instruction

-- they end alike and leave the same
pub record Same (x y : Done Storage Touch Dom Dom) : Type 0 where
  pub state : x.state ≡ y.state
  pub value : x.value ≡ y.value

abbrev Alike : Act Dom → Act Dom → Type 0
Alike f g = (s : Storage) → Same (f s) (g s)

then_if : {A : Type 0} (r : Done Storage Touch Dom A) (f g : A → Act Dom) → ((a : A) → Alike (f a) (g a))
    → (v : Dom ⊎ A)
    → Same (go_on r f v) (go_on r g v)
unfolding go_on
then_if r f g same (inl d) = record { state = refl; value = refl }
then_if r f g same (inr a) = record { state = (same a r.state).state; value = (same a r.state).value }

-- after the same beginning
then_same : {A : Type 0} (x : Act A) (f g : A → Act Dom) → ((a : A) → Alike (f a) (g a))
    → Alike (x >>= f) (x >>= g)
unfolding ◌>>=◌
then_same x f g same s = then_if (x s) f g same (x s).value

module _ (p : Hardware) (e : Estate) (l m : Layout) (t : ℕ) (d : Dom) where
  perform_same : (w : ℕ) (i : Option Instr) → Alike (perform p e l t d w i) (perform p e m t d w i)
  unfolding perform make_call
  perform_same w None s = record { state = refl; value = refl }
  perform_same w (Some instr.Ecall) s = record { state = refl; value = refl }
  perform_same w (Some (instr.ReadCounter c rd)) s = record { state = refl; value = refl }
  perform_same w (Some (instr.Lui rd imm)) s = record { state = refl; value = refl }
  perform_same w (Some (instr.Auipc rd imm)) s = record { state = refl; value = refl }
  perform_same w (Some (instr.Jal rd offset)) s = record { state = refl; value = refl }
  perform_same w (Some (instr.Jalr rd rs1 offset)) s = record { state = refl; value = refl }
  perform_same w (Some (instr.Branch comparison rs1 rs2 offset)) s = record { state = refl; value = refl }
  perform_same w (Some (instr.Load width rd rs1 offset)) s = record { state = refl; value = refl }
  perform_same w (Some (instr.Store width rs1 rs2 offset)) s = record { state = refl; value = refl }
  perform_same w (Some (instr.Immediate operation rd rs1 imm)) s = record { state = refl; value = refl }
  perform_same w (Some (instr.Register operation rd rs1 rs2)) s = record { state = refl; value = refl }
  perform_same w (Some (instr.Multiply product rd rs1 rs2)) s = record { state = refl; value = refl }
  perform_same w (Some (instr.Divide division rd rs1 rs2)) s = record { state = refl; value = refl }
  perform_same w (Some instr.Fence) s = record { state = refl; value = refl }
  perform_same w (Some instr.Ebreak) s = record { state = refl; value = refl }

  instruction_same : Alike (instruction p e l t d) (instruction p e m t d)
  unfolding instruction ◌>>◌
  instruction_same =
      let pc = d.threads.current.pc in
      then_same (translate p e.root d access.Fetch pc) _ _
      (λ f. then_same (touch (Fetch (line_in p f pc))) _ _
      (λ _. then_same (read f (place pc)) _ _ (λ w. perform_same w (decode_of _ w))))

-- ---- a step

module _ (p : Hardware) (o : Own) (h : Hierarchy) (l : Layout) (b : Bool) where
  -- a setting of the domain
  abbrev pub of_domain : Setting
  of_domain = record { machine = p; own = o; levels = h; clone = l; pinned = b }

  happened_same : (s : Local) (e : Event)
      → ((happened of_domain s e).dom ≡ (happened (setting p o false) s e).dom)
      × ((happened of_domain s e).storage ≡ (happened (setting p o false) s e).storage)
  unfolding happened paid delivered
  happened_same s (Jump t) = (refl, refl)
  happened_same s (Deliver line) = (refl, refl)
  happened_same s Run =
      let n = instruction_same p (estate p o) l (layout p o) s.clock s.dom s.storage in
      (ap either n.value, n.state)

  pub step_same : (end : ℕ) (s : Local)
      → ((step of_domain end s).dom ≡ (step (setting p o false) end s).dom)
      × ((step of_domain end s).storage ≡ (step (setting p o false) end s).storage)
  unfolding step
  step_same end s = happened_same s (event o s.clock end s.dom)

  pub step_keeps_so : IsKernel p o → (end : ℕ) (first : Storage) (s : Local) → Keeps p o first s
      → Keeps p o first (step of_domain end s)
  step_keeps_so kernel end first s h =
      let n = step_same end s in
      let k = step_keeps p o kernel false end first s h in
      record {
        facts = subst₂ (λ (d : Dom) (t : Storage). HasFacts p o d t) (sym n.0) (sym n.1) k.facts;
        outside = λ f out. ap (λ (t : Storage). frame_at t.mem f) n.1 ∙ k.outside f out;
        others = ap (λ (t : Storage). others_side o.number t.boxes) n.1 ∙ k.others;
      }

  pub steps_keep_so : IsKernel p o → (end n : ℕ) (first : Storage) (s : Local) → Keeps p o first s
      → Keeps p o first (steps of_domain end n s)
  steps_keep_so kernel end n first s h =
      steps_by of_domain end (Keeps p o first) (λ t below k. step_keeps_so kernel end first t k) n s h
