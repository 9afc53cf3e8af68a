-- No leaf's rights are wider than those of the capability through which its page is mapped: so it stays in each step of the
-- domain, as long as the facts of its frames hold.
use Rattle.std.proofs.Common.{◌≡◌, ℕ, Bool, ap, sym, subst, ◌∙◌, refl}
use Rattle.std.specs.Prelude.{Ok}
use Rattle.tp_base.specs.Act.{either}
use Rattle.phys_mem.specs.Mem.{Mem, written}
use Rattle.sv32_walk.specs.declared.access.Access.TheVariants as access
use Rattle.sv32_walk.specs.PageTableEntry.{valid, ppn, vpn_0, vpn_1}
use Rattle.sv32_walk.specs.Walk.{walk}
use Rattle.page_map.proofs.WalkLemmas.{vpn_0-below, vpn_1-below}
use Rattle.cap_table.specs.Slots.{Slots, cap_at}
use Rattle.call_table.specs.Domain.{Dom, placed, replied, refused, done, delivered_on}
use Rattle.call_table.specs.Claims.{is_mine, claims}
use Rattle.call_table.specs.Mail.{called}
use Rattle.call_table.specs.Rights.{AreWithin}
use Rattle.call_table.proofs.MailCalls.{after_called, storage_kept}
use Rattle.call_table.proofs.TablesMeaning.{stored}
use Rattle.call_table.proofs.RightsKept.{calls_within, stores_within}
use Rattle.hardware_check.specs.Hardware.{Hardware}
use Rattle.image_check.specs.Own.{Own}
use Rattle.world_view.specs.Kernel.{estate, layout}
use Rattle.world_view.specs.Instruction.{stopped, retired_at}
use Rattle.world_view.specs.Event.{Storage, Event, event, instruction, noted}
use Rattle.world_view.specs.Event.Event.{Jump, Deliver, Run}
use Rattle.world_view.specs.Machine.{setting, Local, paid, delivered, happened, step}
use Rattle.world_view.specs.Relations.{SameFrames, IsKernel, HasFacts, HasRights}
use Rattle.world_view.proofs.actions.TableLaws.{IsPage, walkable, tables_of_frames, own_page, mine_own}
use Rattle.world_view.proofs.facts.FactsSame.{facts_same}
use Rattle.world_view.proofs.actions.ActLaws.{facts_of}
use Rattle.world_view.proofs.actions.InstructionLaws.{leaves_all, retired_caps}
use Rattle.world_view.proofs.steps.StepLaws.{delivered_caps}

-- both: the facts of the domain's frames, and that its leaves are within rights
pub record HasBoth (p : Hardware) (o : Own) (d : Dom) (s : Storage) : Type 0 where
  pub facts : HasFacts p o d s
  pub rights : HasRights p o d s

module _ (p : Hardware) (o : Own) where
  -- it is so of every domain with the same capabilities
  rights_of : (d x : Dom) (s : Storage) → x.caps ≡ d.caps → HasRights p o d s → HasRights p o x s
  rights_of d x s same h = record { each = λ i f r va is. h.each i f r va (ap (λ (caps : Slots). cap_at caps i) (sym same) ∙ is) }

  -- in every memory in which the domain's frames are the same
  pub rights_same : (d : Dom) (s t : Storage) → SameFrames p o t.mem s.mem → HasBoth p o d s
      → HasRights p o d t
  rights_same d s t same h =
      let root = (estate p o).root in
      let tables = tables_of_frames p o root (IsPage p o d s.mem) s.mem (walkable p o d s.mem h.facts) t.mem same in
      record {
        each = λ i f r va is.
            let old = h.rights.each i f r va is in
            record {
              table = ap valid (tables.in_root (vpn_1 va) (vpn_1-below va)) ∙ old.table;
              given = old.given;
              good = old.good;
              within = old.within;
              leaf = tables.in_tables (vpn_1 va) (vpn_0 va) (vpn_1-below va) (vpn_0-below va) old.table ∙ old.leaf;
            };
      }

  -- both hold of a domain that is the same, in a memory in which its frames are
  pub both_with : (d e : Dom) (s t : Storage) → e ≡ d → SameFrames p o t.mem s.mem → HasBoth p o d s
      → HasBoth p o e t
  both_with d e s t is same h =
      subst (λ (x : Dom). HasBoth p o x t) (sym is)
      (record {
        facts = record {
          slots = h.facts.slots;
          facts =
              facts_same (estate p o).root (is_mine (estate p o)) (claims (estate p o) d.caps) s.mem t.mem h.facts.facts
              (λ f mine. same f (mine_own p o f mine));
        };
        rights = rights_same d s t same h;
      })

  -- ---- the domain's own steps

  module _ (kernel : IsKernel p o) where
    pub same_caps : (d x : Dom) (s : Storage) → x.caps ≡ d.caps → HasBoth p o d s → HasBoth p o x s
    same_caps d x s same h = record { facts = facts_of p o d x s same h.facts; rights = rights_of d x s same h.rights }

    after_call : (d : Dom) (s : Storage) → HasBoth p o d s
        → HasBoth p o (either (called (estate p o) d s).value) (called (estate p o) d s).state
    unfolding replied placed
    after_call d s h =
        let e = estate p o in
        record {
          facts = storage_kept e d s kernel.has_estate h.facts;
          rights =
              after_called e d (λ (x : Dom) (m : Mem). AreWithin e x m) s (λ code. (same_caps d (refused code d) s refl h).rights)
              (λ value. (same_caps d (done value d) s refl h).rights)
              (calls_within e d s.mem kernel.has_estate h.facts h.rights);
        }

    after_store : (d : Dom) (s : Storage) (va leaf i v : ℕ) → HasBoth p o d s
        → (walk s.mem p.frames (estate p o).root va access.Store).result ≡ Ok leaf
        → HasBoth p o d (record s { mem = written s.mem (ppn leaf) i v })
    after_store d s va leaf i v h is =
        let e = estate p o in
        let found : IsPage p o d s.mem (ppn leaf) =
        own_page p o e.root (IsPage p o d s.mem) s.mem (walkable p o d s.mem h.facts) va access.Store leaf is in
        record {
          facts = stored e d s.mem h.facts (ppn leaf) i v found.frame;
          rights = stores_within e d s.mem (ppn leaf) i v h.facts h.rights found.frame;
        }

    after_stop : (d : Dom) (code value : ℕ) (s : Storage) → HasBoth p o d s
        → HasBoth p o (stopped code value d) s
    unfolding stopped
    after_stop d code value s h = same_caps d (stopped code value d) s refl h

    after_instruction : (t : ℕ) (d : Dom) (s : Storage) → HasBoth p o d s
        → HasBoth p o (either (instruction p (estate p o) (layout p o) t d s).value) (instruction p (estate p o) (layout p o) t d s).state
    after_instruction t d s h =
        leaves_all p (estate p o) (layout p o) d (HasBoth p o d) (HasBoth p o) (after_stop d)
        (λ pc value regs i s h. same_caps d (retired_at pc regs (noted i value d)) s (retired_caps pc regs i value d) h)
        (after_store d) (after_call d) t s h

    event_keeps_both : (pinned : Bool) (s : Local) (e : Event) → HasBoth p o s.dom s.storage
        → HasBoth p o (happened (setting p o pinned) s e).dom (happened (setting p o pinned) s e).storage
    unfolding happened paid delivered
    event_keeps_both pinned s (Jump t) h = h
    event_keeps_both pinned s (Deliver line) h = same_caps s.dom (delivered_on line s.dom) s.storage (delivered_caps line s.dom) h
    event_keeps_both pinned s Run h = after_instruction s.clock s.dom s.storage h

    pub step_keeps_both : (pinned : Bool) (end : ℕ) (s : Local) → HasBoth p o s.dom s.storage
        → HasBoth p o (step (setting p o pinned) end s).dom (step (setting p o pinned) end s).storage
    unfolding step
    step_keeps_both pinned end s h = event_keeps_both pinned s (event o s.clock end s.dom) h
