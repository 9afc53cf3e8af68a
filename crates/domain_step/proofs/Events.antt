-- What the code keeps of a whole domain, before and after an instruction.
use Rattle.std.proofs.Common.{◌≡◌, ℕ, List, refl, ap, sym, subst, ◌∙◌, length}
use Rattle.set_cache.specs.Rule.{Rule}
use Rattle.cap_table.specs.Slots.{Slots}
use Rattle.kernel_clone.specs.Models.{layout_model}
use Rattle.mem_system.specs.Cost.{Touched}
use Rattle.mem_system.specs.Translation.{KeepsLeaves}
use Rattle.call_table.specs.Domain.{Dom}
use Rattle.call_table.specs.Claims.{Estate, is_mine, claims, free_frames, Facts}
use Rattle.kernel_call.specs.declared.domain.Domain.{Domain}
use Rattle.kernel_call.specs.Facts.{Has}
use Rattle.world_view.specs.Kernel.{estate}
use Rattle.world_view.specs.Event.{Storage, Act}
use Rattle.domain_step.specs.Stands.{KeepsFrames}
use Rattle.domain_step.specs.Moves.{Left}
use Rattle.domain_step.proofs.Points.{Point, Side, YieldsAt, KeptWhole, KeptParts, Boxed}

-- frames that are used as they were still are the domain's
pub has_still : (e : Estate) (old new : Domain) → Has e old → new.caps ≡ old.caps
    → new.pool ≡ old.pool → new.map ≡ old.map → new.calls ≡ old.calls → new.number ≡ old.number → Has e new
has_still e old new has caps pool map calls number = record {
  root = map ∙ has.root;
  calls = calls ∙ has.calls;
  number = number ∙ has.number;
  pool =
      pool ∙ has.pool ∙ ap (λ (slots : Slots). record { share = e.share; free = free_frames e slots }) (sym caps);
  slots = ap length caps ∙ has.slots;
}

pub keeps_itself : (d : Domain) → KeepsFrames d d
keeps_itself d = record {
  caps = refl;
  pool = refl;
  map = refl;
  layout = refl;
  calls = refl;
  number = refl;
  moments = refl;
}

module _ {P : Type 0} (rule : P → ℕ → Rule) (stands : P → ℕ → ℕ → List ℕ → Type 0) (p : Point)
    (old : Side P)
    (k : KeptWhole rule stands p old p.storage p.reached) (top : p.root ≡ old.domain.map) where
  pub kept_in : KeptParts rule stands p old.domain.caps old p.storage p.reached
  kept_in = record {
    fits = k.fits;
    tables = top ∙ k.facts.has.root;
    slots = k.facts.has.slots;
    holds = k.facts.holds;
    facts = k.facts.facts;
    leaves =
        subst (λ (n : ℕ). KeepsLeaves p.storage.mem old.memory.frames n old.system.core.tlb)
        (sym top) k.leaves;
    cost = k.cost;
    caches = k.caches;
  }

  pub is_root : p.root ≡ (estate p.setting.machine p.setting.own).root
  is_root = top ∙ k.facts.has.root

  module _ (new : Side P) (keeps : KeepsFrames old.domain new.domain)
      (frames : new.memory.frames ≡ old.memory.frames) where
    -- with the boxes
    abbrev KeptBoxed : Storage → Touched → Type 0
    KeptBoxed = Boxed new.mail (KeptParts rule stands p old.domain.caps new)

    pub kept_whole : (t : Storage) (q : Touched) → KeptBoxed t q → KeptWhole rule stands p new t q
    kept_whole t q m =
        let n = m.kept in
        let e = estate p.setting.machine p.setting.own in
        record {
          fits = n.fits;
          facts = record {
            estate = k.facts.estate;
            frames = k.facts.frames ∙ sym frames;
            has = has_still e old.domain new.domain k.facts.has keeps.caps keeps.pool keeps.map keeps.calls keeps.number;
            holds = n.holds;
            facts =
                subst (λ (caps : Slots). Facts e.root (is_mine e) (claims e caps) t.mem)
                (sym keeps.caps) n.facts;
          };
          boxes = m.boxes;
          layout = ap layout_model keeps.layout ∙ k.layout;
          leaves =
              subst (λ (n : ℕ). KeepsLeaves t.mem new.memory.frames n new.system.core.tlb)
              (top ∙ sym keeps.map) n.leaves;
          cost = n.cost;
          caches = n.caches;
        }

    -- an instruction that is no kernel call keeps them
    pub left_whole : (x : Act Dom)
        → YieldsAt p x (Left new.domain KeptBoxed)
        → YieldsAt p x (Left new.domain (KeptWhole rule stands p new))
    left_whole x left =
        record { met = record { dom = left.met.dom; kept = kept_whole _ _ left.met.kept } }
