-- What is so of a call that was refused, and of one that changes slots, the pool and page tables alone.
use Rattle.std.proofs.Common.{◌≡◌, ◌≤◌, ◌∙◌, ℕ, Ok, Err, refl, ap, ap₂}
use Rattle.std.specs.Coded.{le_prop}
use Rattle.std.specs.Prelude.{Result, IfErr, vec_capacity}
use Rattle.frame_colours.specs.FreeList.{FreeList}
use Rattle.cap_table.specs.Slots.{Slots}
use Rattle.kernel_call.specs.declared.domain.Domain.{Domain}
use Rattle.kernel_call.specs.Facts.{KeepsRest}

-- what is so anyway is so of an error
pub if_err : {T E : Type 0} (r : Result T E) {A : Type 0} → A → IfErr r (λ (error : E). A)
if_err (Ok x) a = tt
if_err (Err x) a = a

pub rest_of : (d : Domain) (caps : Slots) (map : ℕ) (pool : FreeList) (room : 4096 ≤ vec_capacity d.printed)
    → map ≡ d.map
    → KeepsRest d (record d { caps = caps; map = map; pool = pool; room = room })
rest_of d caps map pool room same = record {
  status = refl;
  threads = refl;
  interrupts = refl;
  map = same;
  tables = refl;
  kept = refl;
  layout = refl;
  calls = refl;
  number = refl;
  retired = refl;
  readings = refl;
  replies = refl;
}

pub rest_same : (d : Domain) → KeepsRest d d
rest_same d = rest_of d d.caps d.map d.pool d.room refl

-- where the page map and the pool are as they were, so is the domain
pub same_parts : (d : Domain) (map : ℕ) (pool : FreeList) (room : 4096 ≤ vec_capacity d.printed) → map ≡ d.map
    → pool ≡ d.pool
    → record d { map = map; pool = pool; room = room } ≡ d
same_parts d map pool room same_map same_pool =
    ap₂ (λ (m : ℕ) (p : FreeList). record d { map = m; pool = p; room = room }) same_map same_pool
    ∙ ap (λ (r : 4096 ≤ vec_capacity d.printed). record d { room = r }) (le_prop room d.room)
