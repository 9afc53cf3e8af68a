-- A domain at its entry, on a hierarchy that holds nothing.
use Rattle.std.proofs.Common.{◌≡◌, ℕ, List, false, refl, sym, ap, subst}
use Rattle.phys_mem.specs.Contents.{Contents}
use Rattle.phys_mem.specs.Holds.{Holds}
use Rattle.phys_mem.specs.Mem.{Mem}
use Rattle.set_cache.specs.Rule.{Rule}
use Rattle.cap_table.specs.Slots.{Slots}
use Rattle.mem_system.specs.Cost.{cold}
use Rattle.mem_system.specs.Contents.{SystemContents, SystemStands, hierarchy_of}
use Rattle.mem_system.specs.Translation.{KeepsLeaves}
use Rattle.image_check.specs.Image.{Image, own_of}
use Rattle.image_check.specs.Laws.{Runnable}
use Rattle.call_table.specs.Domain.{Dom}
use Rattle.call_table.specs.Claims.{is_mine, claims, Facts}
use Rattle.mail_slots.specs.Boxes.{Boxes}
use Rattle.kernel_call.specs.declared.domain.Domain.{Domain}
use Rattle.kernel_call.specs.Facts.{HasFacts}
use Rattle.world_view.specs.Cost.{hierarchy}
use Rattle.world_view.specs.Kernel.{opening_dom, estate}
use Rattle.world_view.specs.Machine.{with_hart, setting, Local, opening}
use Rattle.world_view.proofs.opening.Separate.{separated}
use Rattle.world_view.proofs.opening.OpeningFacts.{opening_facts, kernel_of}
use Rattle.domain_open.specs.Placing.{IsOpened, placed_all}
use Rattle.domain_step.specs.Moves.{Runs}
use Rattle.domain_step.proofs.Standing.{is_setting}

module _ (i : Image) (r : Runnable i) (memory : Contents) (x : Domain) (opened : IsOpened i.all.hardware (own_of i 0) x)
    (frames : memory.frames ≡ i.all.hardware.frames) (holds : Holds memory (placed_all i)) where
  -- the first domain has its facts
  pub facts_at_first : HasFacts (estate i.all.hardware (own_of i 0)) memory (opening i).storage.mem x
  unfolding estate opening with_hart
  facts_at_first =
      let e = estate i.all.hardware (own_of i 0) in
      let caps : (opening_dom i.all.hardware (own_of i 0)).caps ≡ x.caps = sym (ap (λ (m : Dom). m.caps) opened.stands.same) in
      record {
        estate = (kernel_of i (separated i r) 0 r.some_domain).has_estate;
        frames = sym frames;
        has = opened.has;
        holds = holds;
        facts =
            subst (λ (slots : Slots). Facts e.root (is_mine e) (claims e slots) (placed_all i)) caps
            (opening_facts i (separated i r) 0 r.some_domain).facts;
      }

  -- the first domain runs at clock 0, whatever words are in boxes
  pub opened_runs : {P : Type 0} (rule : P → ℕ → Rule) (stands : P → ℕ → ℕ → List ℕ → Type 0)
      (mail : Boxes) (system : SystemContents P)
      → hierarchy i.all.hardware ≡ hierarchy_of rule system → system.core.pinned ≡ false
      → SystemStands stands system (cold (hierarchy i.all.hardware))
      → ((m : Mem) (n root : ℕ) → KeepsLeaves m n root system.core.tlb) → Runs rule stands memory mail x system 0
  opened_runs rule stands mail system levels pinned caches leaves =
      let w = setting i.all.hardware (own_of i 0) false in
      let s : Local = record {
        dom = opening_dom i.all.hardware (own_of i 0);
        storage = record (opening i).storage { boxes = mail };
        caches = cold (hierarchy i.all.hardware);
        clock = 0;
      } in
      record {
        setting = w;
        state = s;
        stands_in = record {
          fits = record {
            kernel = kernel_of i (separated i r) 0 r.some_domain;
            sound =
                is_setting i.all.hardware (own_of i 0) false (kernel_of i (separated i r) 0 r.some_domain);
            frames = sym frames;
            levels = levels;
            pinned = pinned;
          };
          dom = opened.stands;
          facts = facts_at_first;
          boxes = refl;
          layout = opened.layout;
          leaves = leaves (opening i).storage.mem memory.frames x.map;
          caches = caches;
          moments = opened.moments;
          time = refl;
        };
      }
