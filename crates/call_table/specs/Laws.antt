-- What kernel calls keep and what they mean, as laws.
use Rattle.std.specs.Prelude.{◌≡◌, ◌≢◌, ℕ, ◌<◌, ◌≤◌, ◌⊎◌, ◌/◌, true, false, List, [], ◌∷◌, length, Option, Some, None, Result, Ok}
use Rattle.std.specs.List.{All}
use Rattle.std.specs.List.Sorted.{IsStrictlyIncreasing}
use Rattle.std.proofs.Common.{inl, inr}
use Rattle.tp_base.specs.Act.{Done, either}
use Rattle.phys_mem.specs.Mem.{Mem, frame_at, word, written}
use Rattle.sv32_walk.specs.declared.access.Access.{Access}
use Rattle.sv32_walk.specs.declared.access.WalkFault.{WalkFault}
use Rattle.sv32_walk.specs.PageTableEntry.{valid, ppn, is_leaf, rights_permit, leaf_word}
use Rattle.sv32_walk.specs.Walk.{walk}
use Rattle.page_map.specs.Tables.{IsPageMap, TablesOnce}
use Rattle.page_map.specs.Reached.{leaf_at, ReachesIn, IsApart, IsSealed}
use Rattle.frame_colours.specs.Colours.{pool}
use Rattle.rv_core.specs.Registers.{register}
use Rattle.kernel_clone.specs.Permissions.{may_make}
use Rattle.pad_bound.specs.Worst.{IsCallWork, IsPermitted}
use Rattle.cap_table.specs.Slots.{Slots, cap_at, page_of, table_of, mapped_at}
use Rattle.cap_table.specs.declared.Cap.TheVariants as cap
use Rattle.call_table.specs.declared.Reply.{Reply}
use Rattle.call_table.specs.Domain.{Dom, refused, reply_past}
use Rattle.call_table.specs.Claims.{Claim, Estate, is_mine, claims, is_named, frame_of, Facts, IsEstate}
use Rattle.call_table.specs.Calls.{Note, alloc, map_page, copy, delete, revoke, call, is_within, empties, empties_buffer, op_of, work_of, number_made}

-- ---- the facts of a domain and a memory

pub record Kept (e : Estate) (d : Dom) (m : Mem) : Type 0 where
  pub slots : length d.caps ≡ 64
  pub facts : Facts e.root (is_mine e) (claims e d.caps) m

-- what an action leaves has them
abbrev pub LeavesKept : Estate → Done Mem Note Dom Dom → Type 0
LeavesKept e r = Kept e (either r.value) r.state

-- every call keeps them
abbrev pub CallsKeepLaw : Type 0
CallsKeepLaw = (e : Estate) (d : Dom) (m : Mem) → IsEstate e → Kept e d m → LeavesKept e (call e d m)

-- ---- refused calls

-- an early end is a refusal: a code, memory as it was, and no work
pub record IsRefusal (d : Dom) (m : Mem) (r : Done Mem Note Dom Dom) (x : Dom) : Type 0 where
  pub code : ℕ
  pub some : 1 ≤ code
  pub few : code ≤ 13
  pub reply : x ≡ refused code d
  pub memory : r.state ≡ m
  pub no_work : r.notes ≡ []

abbrev pub RefusalLaw : Type 0
RefusalLaw = (e : Estate) (d x : Dom) (m : Mem) → (call e d m).value ≡ inl x → IsRefusal d m (call e d m) x

-- a call that the domain may not make is refused before all else, whatever its number and arguments
abbrev pub LeftOutLaw : Type 0
LeftOutLaw = (e : Estate) (d : Dom) (m : Mem) → may_make e.calls (register d.threads.current.regs 17) ≡ false
    → call e d m ≡ record { notes = []; state = m; value = inl (refused 1 d) }

-- ---- a call stays within the domain's own frames

abbrev pub IsMine : Estate → ℕ → Type 0
IsMine e f = is_mine e f ≡ true

-- equal in the domain's own frames
abbrev pub SameMine : Estate → Mem → Mem → Type 0
SameMine e m k = (f : ℕ) → IsMine e f → frame_at m f ≡ frame_at k f

-- work in the domain's own frames
abbrev pub IsOwnWork : Estate → Note → Type 0
IsOwnWork e (Note.Zeroed f) = IsMine e f
IsOwnWork e (Note.Entry at) = IsMine e (at / 4096)
IsOwnWork e Note.Emptied = Unit {0}

-- from memories that are equal in its own frames a call does the same work, in them alone, with the same outcome
pub record IsConfined (e : Estate) (m : Mem) (r q : Done Mem Note Dom Dom) : Type 0 where
  pub value : r.value ≡ q.value
  pub notes : r.notes ≡ q.notes
  pub same : SameMine e r.state q.state
  pub outside : (f : ℕ) → is_mine e f ≡ false → frame_at r.state f ≡ frame_at m f
  pub work : All (IsOwnWork e) r.notes

abbrev pub ConfinedLaw : Type 0
ConfinedLaw = (e : Estate) (d : Dom) (m k : Mem) → Kept e d m → SameMine e m k
    → IsConfined e m (call e d m) (call e d k)

-- ---- what the facts mean for page tables

-- a frame that holds a page: the domain's own, and no table, be it installed or not
pub record IsPageFrame (e : Estate) (d : Dom) (m : Mem) (f : ℕ) : Type 0 where
  pub own : IsMine e f
  pub apart : IsApart m e.root f
  pub no_table : (i : ℕ) (r : Option ℕ) → claims e d.caps i ≢ Claim.Directory f r
  pub not_fixed : (i : ℕ) → claims e d.caps i ≢ Claim.Fixed f

-- each valid entry of a table is a leaf of a page
pub record AreLeaves (e : Estate) (d : Dom) (m : Mem) : Type 0 where
  pub leaf : (i j : ℕ) → i < 1024 → j < 1024 → valid (word m e.root i) ≡ true
      → valid (leaf_at m e.root i j) ≡ true
      → is_leaf (leaf_at m e.root i j) ≡ true
  pub page : (i j : ℕ) → i < 1024 → j < 1024 → valid (word m e.root i) ≡ true
      → valid (leaf_at m e.root i j) ≡ true
      → IsPageFrame e d m (ppn (leaf_at m e.root i j))

-- the page tables reach the domain's own frames alone, each table once, and no page lies on the tables
pub record HasPageTables (e : Estate) (d : Dom) (m : Mem) : Type 0 where
  pub map : IsPageMap m e.root e.share.frames
  pub once : TablesOnce m e.root
  pub root : IsMine e e.root
  pub reaches : ReachesIn (IsMine e) m e.root
  pub sealed : IsSealed m e.root
  pub leaves : AreLeaves e d m

abbrev pub PageTablesLaw : Type 0
PageTablesLaw = (e : Estate) (d : Dom) (m : Mem) → Kept e d m → HasPageTables e d m

-- a store into a page changes no fact
abbrev pub StoreLaw : Type 0
StoreLaw = (e : Estate) (d : Dom) (m : Mem) (f i v : ℕ) → Kept e d m → IsPageFrame e d m f
    → Kept e d (written m f i v)

-- ---- calls in the user's words

-- what an address comes to
abbrev pub found_at : Estate → Mem → ℕ → Access → Result ℕ WalkFault
found_at e m va a = (walk m e.share.frames e.root va a).result

-- after MAP a walk finds exactly that frame with those rights
abbrev pub MapLaw : Type 0
MapLaw = (e : Estate) (d x : Dom) (m : Mem) (a b c f : ℕ) (access : Access) → Kept e d m
    → (map_page e d a b c m).value ≡ inr x → page_of (cap_at d.caps a) ≡ Some f
    → rights_permit c access ≡ true
    → found_at e (map_page e d a b c m).state b access ≡ Ok (leaf_word f c)

-- no address reaches a frame
pub record IsUnreached (e : Estate) (m : Mem) (f : ℕ) : Type 0 where
  pub none : (va leaf : ℕ) (access : Access) → found_at e m va access ≡ Ok leaf → ppn leaf ≢ f

-- after DELETE of the last capability of a page, no address reaches its frame
abbrev pub DeleteLaw : Type 0
DeleteLaw = (e : Estate) (d x : Dom) (m : Mem) (a f : ℕ) → IsEstate e → Kept e d m
    → (delete e d a m).value ≡ inr x → page_of (cap_at d.caps a) ≡ Some f
    → ((i : ℕ) → i ≢ a → page_of (cap_at d.caps i) ≢ Some f) → IsUnreached e (delete e d a m).state f

-- after REVOKE of a page that is not mapped through the slot itself, no address reaches its frame, and no other slot names it
pub record IsRevoked (e : Estate) (x : Dom) (m : Mem) (a f : ℕ) : Type 0 where
  pub alone : (i : ℕ) → i ≢ a → page_of (cap_at x.caps i) ≢ Some f
  pub unreached : mapped_at (cap_at x.caps a) ≡ None → IsUnreached e m f

abbrev pub RevokeLaw : Type 0
RevokeLaw = (e : Estate) (d x : Dom) (m : Mem) (a f : ℕ) → IsEstate e → Kept e d m
    → (revoke e d a m).value ≡ inr x → page_of (cap_at d.caps a) ≡ Some f
    → IsRevoked e x (revoke e d a m).state a f

-- a frame that ALLOC took reads zero, was nobody's, and is named by the new capability alone
pub record IsFresh (e : Estate) (d x : Dom) (m : Mem) (a f : ℕ) : Type 0 where
  pub own : IsMine e f
  pub was_free : is_named e d.caps f ≡ false
  pub zero : (i : ℕ) → word m f i ≡ 0
  pub alone : (i : ℕ) → frame_of (claims e x.caps i) ≡ Some f → i ≡ a

abbrev pub AllocLaw : Type 0
AllocLaw = (e : Estate) (d x : Dom) (m : Mem) (a b f : ℕ) → Kept e d m
    → (alloc e d a b m).value ≡ inr x
    → (page_of (cap_at x.caps a) ≡ Some f) ⊎ (table_of (cap_at x.caps a) ≡ Some f)
    → IsFresh e d x (alloc e d a b m).state a f

-- ---- rights, and what is reached

-- rights never widen: a page that is named after calls is one that was free, or was named with at least these rights
pub record IsNoWider (e : Estate) (old new : Slots) : Type 0 where
  pub from : (i f r : ℕ) (w : Option ℕ) → cap_at new i ≡ Some (cap.Frame f r w)
      → (is_named e old f ≡ false)
      ⊎ ((j : ℕ) × (s : ℕ) × (u : Option ℕ) × (cap_at old j ≡ Some (cap.Frame f s u))
      × (is_within r s ≡ true))

abbrev pub NoWiderLaw : Type 0
NoWiderLaw = (e : Estate) (d : Dom) (m : Mem) → IsNoWider e d.caps (either (call e d m).value).caps

-- COPYs one after another, each from slot x.0 to slot x.1 with rights x.2
unfoldable pub after_copies : List (ℕ × ℕ × ℕ) → Mem → Dom → Dom
after_copies [] m d = d
after_copies (x ∷ xs) m d = after_copies xs m (either (copy d x.0 x.1 x.2 m).value)

-- along any chain of copies, each page was named at first with at least these rights
abbrev pub CopiesLaw : Type 0
CopiesLaw = (d : Dom) (m : Mem) (xs : List (ℕ × ℕ × ℕ)) (i f r : ℕ) (w : Option ℕ)
    → cap_at (after_copies xs m d).caps i ≡ Some (cap.Frame f r w)
    → (j : ℕ) × (s : ℕ) × (u : Option ℕ) × (cap_at d.caps j ≡ Some (cap.Frame f s u)) × (is_within r s ≡ true)

-- some address reaches the frame
abbrev pub IsReached : Estate → Mem → ℕ → Type 0
IsReached e m f =
    (va : ℕ) × (leaf : ℕ) × (access : Access) × (found_at e m va access ≡ Ok leaf) × (ppn leaf ≡ f)

-- the frames that a domain's page tables reach are of its pool, so they are never more
abbrev pub PoolLaw : Type 0
PoolLaw = (e : Estate) (d : Dom) (m : Mem) (fs : List ℕ) → Kept e d m
    → IsStrictlyIncreasing fs → All (IsReached e m) fs → length fs ≤ length (pool e.share)

-- ---- the translation buffer

-- the reply that a call gave: the last, where one was recorded past those that the domain had
abbrev pub reply_of : Dom → Done Mem Note Dom Dom → Option Reply
reply_of d r = reply_past (length d.replies) (either r.value)

-- the calls that empty the buffer are UNMAP, DELETE and REVOKE that are done
abbrev pub EmptiesLaw : Type 0
EmptiesLaw = (e : Estate) (d : Dom) (m : Mem)
    → empties (call e d m).notes ≡ empties_buffer (number_made e d) (reply_of d (call e d m))

-- each walk that comes to a leaf in one memory comes to it in another
pub record KeepsWalks (e : Estate) (m k : Mem) : Type 0 where
  pub each : (va leaf : ℕ) (access : Access)
      → found_at e m va access ≡ Ok leaf → found_at e k va access ≡ Ok leaf

-- every other call keeps what the buffer may hold
abbrev pub WalksStayLaw : Type 0
WalksStayLaw = (e : Estate) (d : Dom) (m : Mem) → Kept e d m → empties (call e d m).notes ≡ false
    → KeepsWalks e m (call e d m).state

-- ---- the work of a call

-- its operation is that of its number
abbrev pub OperationLaw : Type 0
OperationLaw = (e : Estate) (d : Dom) (m : Mem)
    → (work_of (number_made e d) (call e d m).notes).op ≡ op_of (number_made e d)

-- it is within what the bound on a switch allows to one call
abbrev pub WorkLaw : Type 0
WorkLaw = (e : Estate) (d : Dom) (m : Mem) → IsCallWork (work_of (number_made e d) (call e d m).notes)

-- and of an operation that the domain may make
abbrev pub PermittedLaw : Type 0
PermittedLaw =
    (e : Estate) (d : Dom) (m : Mem) → IsPermitted e.calls (work_of (number_made e d) (call e d m).notes)
