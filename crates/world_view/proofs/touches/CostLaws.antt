-- What touches of a domain, of another and of the prefetch do to caches.
use Rattle.std.proofs.Common.{◌≡◌, ℕ, ◌<◌, Bool, true, false, List, [], ◌∷◌, refl, arith}
use Rattle.mem_system.specs.Cost.{Touch, Flush, Caches, touched, touched_all, and_then}
use Rattle.mem_system.specs.Sharing as sharing
use Rattle.set_cache.specs.Cache.{Sets}
use Rattle.mem_system.specs.Sharing.{IsSharing, AreApart, MayTouchAll, BesideTouched}
use Rattle.mem_system.specs.Operations.{prefetch}
use Rattle.mem_system.proofs.OwnTouches.{beside_law, others_law, own_dirty_law, stays_law, prefetch_law, prefetch_stays_law, prefetch_may}
use Rattle.mem_system.proofs.Settling.{settled_law}
use Rattle.hardware_check.specs.Hardware.{Hardware}
use Rattle.image_check.specs.Own.{Own}
use Rattle.world_view.specs.Cost.{hierarchy, region, own_colour}
use Rattle.world_view.specs.Relations.{MayAll, IsKernel, AreParties, SameSets, Resident, OwnDirty, BesideCaches}

module _ (p : Hardware) (o : Own) (kernel : IsKernel p o) where
  -- its own: equal costs, and caches that are still beside
  pub own_touches : (first : Caches) (ts : List Touch) (c k : Caches) → MayAll p o ts
      → BesideCaches p o first c k
      → BesideTouched (hierarchy p) (own_colour o) (region p) first.l2 (touched_all (hierarchy p) false c ts)
      (touched_all (hierarchy p) true k ts)
  own_touches first ts c k may b = beside_law (hierarchy p) (own_colour o) (region p) first.l2 ts c k kernel.shares may b

  -- its own leave its own lines dirty alone
  pub own_dirties : (pinned : Bool) (ts : List Touch) (c : Caches) → MayAll p o ts → OwnDirty p o c
      → OwnDirty p o (touched_all (hierarchy p) pinned c ts).caches
  own_dirties pinned ts c may dirty = own_dirty_law (hierarchy p) (own_colour o) (region p) pinned ts c may dirty

  -- its own leave what is shared in place
  pub own_resident : (ts : List Touch) (c : Caches) → MayAll p o ts → Resident p c
      → Resident p (touched_all (hierarchy p) false c ts).caches
  own_resident ts c may resident = stays_law (hierarchy p) (own_colour o) (region p) ts c kernel.shares may resident

  -- where nothing shared is touched, it needn't be there
  none_shared : IsSharing (hierarchy p) (own_colour o) []
  none_shared = record {
    coloured = kernel.shares.coloured;
    not_kernel = kernel.shares.not_kernel;
    kernel = λ i below. absurd (omega (arith, below));
  }

  pub own_lines : (ts : List Touch) (c k : Caches) → MayTouchAll (hierarchy p) (own_colour o) [] ts
      → c.core ≡ k.core → OwnDirty p o c
      → SameSets p o c k
      → BesideTouched (hierarchy p) (own_colour o) [] c.l2 (touched_all (hierarchy p) false c ts) (touched_all (hierarchy p) true k ts)
  own_lines ts c k may core dirty same =
      beside_law (hierarchy p) (own_colour o) [] c.l2 ts c k none_shared may
      (record {
        core = core;
        dirty = dirty;
        l2 = record {
          same = same;
          resident = λ i below. absurd (omega (arith, below));
          outside = λ s out kernel. refl;
        };
      })

  -- the flush after them, too
  pub flush_beside : (first : Sets) (c k : Caches)
      → sharing.BesideCaches (hierarchy p) (own_colour o) [] first c k
      → SameSets p o (touched (hierarchy p) false c Flush).caches (touched (hierarchy p) true k Flush).caches
  unfolding touched_all and_then
  flush_beside first c k beside =
      (beside_law (hierarchy p) (own_colour o) [] first (Flush ∷ []) c k none_shared (tt, tt) beside).caches.l2.same

  pub prefetch_resident : (c : Caches) → Resident p c
      → Resident p (touched_all (hierarchy p) false c (prefetch (region p))).caches
  prefetch_resident c resident = prefetch_stays_law (hierarchy p) (own_colour o) (region p) c kernel.shares resident

  -- the prefetch and the flush leave its sets where the dirty lines are another's
  module _ (others : ℕ → Bool) (apart : AreApart (own_colour o) others) (c : Caches)
      (dirty : sharing.OwnDirty (hierarchy p) others c.core) where
    pub prefetch_others : SameSets p o (touched_all (hierarchy p) false c (prefetch (region p))).caches c
    prefetch_others = prefetch_law (hierarchy p) (own_colour o) others (region p) c kernel.shares apart dirty

    pub flush_others : SameSets p o (touched (hierarchy p) false c Flush).caches c
    unfolding touched_all and_then
    flush_others = others_law (hierarchy p) (own_colour o) others (region p) (Flush ∷ []) c kernel.shares apart (tt, tt) dirty

    -- whose lines stay the only dirty ones
    pub prefetch_dirties : sharing.OwnDirty (hierarchy p) others
        (touched_all (hierarchy p) false c (prefetch (region p))).caches.core
    prefetch_dirties =
        own_dirty_law (hierarchy p) others (region p) false (prefetch (region p)) c (prefetch_may (hierarchy p) others (region p)) dirty

  -- after its own slot the flush writes its dirty lines back as it would without the prefetch
  pub settled_own : 0 < (hierarchy p).l1d.count → (c : Caches)
      → SameSets p o (touched (hierarchy p) false (touched_all (hierarchy p) false c (prefetch (region p))).caches Flush).caches
      (touched (hierarchy p) false c Flush).caches
  settled_own some c = settled_law (hierarchy p) (own_colour o) (region p) c kernel.shares some

-- another party's leave its sets, where the dirty lines are the other's
pub others_touches : (p : Hardware) (o other : Own) → AreParties p o other → (ts : List Touch) (c : Caches)
    → MayAll p other ts
    → OwnDirty p other c → SameSets p o (touched_all (hierarchy p) false c ts).caches c
others_touches p o other parties ts c may dirty =
    others_law (hierarchy p) (own_colour o) (own_colour other) (region p) ts c parties.kernel.shares parties.apart may dirty
