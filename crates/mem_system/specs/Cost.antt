-- What touches cost, in cycles, and the caches after them. On-core state sees a touch first; what it passes on goes to the
-- second level.
use Rattle.std.specs.Prelude.{ℕ, ◌+◌, ◌*◌, ◌==◌, ◌&&◌, Bool, true, false, not, if◌then◌else◌, List, [], ◌∷◌, ◌++◌, map, Option, Some, None, is_some}
use Rattle.tp_base.specs.Table.{empty}
use Rattle.set_cache.specs.Cache.{Sets, CacheStep, touch_of, place_of, dirty_of, marked_of, dirty_lines}
use Rattle.tlb_model.specs.Buffer.{found_of, filled_of}
use Rattle.branch_pred.specs.Guesses as guesses
use Rattle.branch_pred.specs.Guesses.{Guesses, fresh_guesses, is_wrong_branch, is_wrong_jump}
use Rattle.mem_system.specs.Hierarchy.{Hierarchy, colour_of_line}

pub data Touch : Type 0 where
  Fetch : ℕ → Touch  -- an instruction is fetched from this physical line
  Load : ℕ → Touch
  Store : ℕ → Touch
  WalkRead : ℕ → Touch  -- a walk reads an entry in this physical line
  -- a page's translation is looked up: its number, the lines of the entries that its walk reads, and whether it is found
  Look : ℕ → List ℕ → Bool → Touch
  Branch : ℕ → Bool → ℕ → Touch  -- a branch at this pc, whether it is taken, and its target
  Jump : ℕ → ℕ → Touch  -- a jump at this pc, and its target
  EmptyTlb : Touch
  Flush : Touch  -- everything on the core is made fresh
  Charge : ℕ → Touch  -- so many cycles, and nothing else

-- what each flush makes fresh; the buffer is a map over page numbers alone
pub record Core : Type 0 where
  pub l1i : Sets
  pub l1d : Sets
  pub tlb : Sets
  pub guesses : Guesses

pub record Caches : Type 0 where
  pub core : Core
  pub l2 : Sets

unfoldable pub fresh_core : Hierarchy → Core
fresh_core h = record { l1i = empty; l1d = empty; tlb = empty; guesses = fresh_guesses h.predictor }

-- caches that hold nothing
unfoldable pub cold : Hierarchy → Caches
cold h = record { core = fresh_core h; l2 = empty }

-- ---- on the core: the cost there, the state after it, and what goes on to the second level, in order

pub data Passed : Type 0 where
  Read : ℕ → Passed  -- a line that isn't held
  WriteBack : ℕ → Passed  -- a dirty line that is given up

pub record PassedOn : Type 0 where
  pub cost : ℕ
  pub core : Core
  pub passed : List Passed

-- a line goes on where the first level doesn't hold it
abbrev pub unless_hit : Bool → ℕ → List Passed
unless_hit true line = []
unless_hit false line = Read line ∷ []

-- the line that is given up for it goes first, if it is dirty
abbrev pub given_up : Option ℕ → Bool → List Passed
given_up (Some victim) true = WriteBack victim ∷ []
given_up (Some victim) false = []
given_up None dirty = []

unfoldable pub fetched : Hierarchy → Core → ℕ → CacheStep → PassedOn
fetched h core line step = record {
  cost = h.costs.l1;
  core = record core { l1i = step.next };
  passed = unless_hit step.answer.hit line;
}

-- a dirty victim is written back first
unfoldable pub accessed : Hierarchy → Core → ℕ → CacheStep → PassedOn
accessed h core line step = record {
  cost = h.costs.l1 + (if step.answer.dirty_victim then h.costs.wb else 0);
  core = record core { l1d = step.next };
  passed = given_up step.answer.victim step.answer.dirty_victim ++ unless_hit step.answer.hit line;
}

-- a look-up, by whether the page is held, else by whether its walk finds it
unfoldable pub looked : Hierarchy → Core → ℕ → List ℕ → Bool → Bool → PassedOn
looked h core page reads found true = record {
  cost = h.costs.tlb;
  core = record core { tlb = found_of h.tlb core.tlb page };
  passed = [];
}
looked h core page reads true false = record {
  cost = h.costs.tlb;
  core = record core { tlb = filled_of h.tlb core.tlb page };
  passed = map Read reads;
}
looked h core page reads false false = record { cost = h.costs.tlb; core = core; passed = map Read reads }

-- a wrong guess, of what is done or of where it goes, costs once
unfoldable pub guessed : Hierarchy → Core → Bool → Guesses → PassedOn
guessed h core wrong next = record {
  cost = if wrong then h.costs.mispredict else 0;
  core = record core { guesses = next };
  passed = [];
}

unfoldable pub branched : Hierarchy → Core → ℕ → Bool → ℕ → PassedOn
branched h core pc taken target =
    guessed h core (is_wrong_branch core.guesses pc taken target)
    (guesses.branched core.guesses pc taken target)

unfoldable pub jumped : Hierarchy → Core → ℕ → ℕ → PassedOn
jumped h core pc target =
    guessed h core (is_wrong_jump core.guesses pc target) (guesses.jumped core.guesses pc target)

-- the dirty lines are written back
unfoldable pub flushed : Hierarchy → Core → PassedOn
flushed h core = record {
  cost = h.costs.flush + h.costs.wb * dirty_of h.l1d core.l1d;
  core = fresh_core h;
  passed = map WriteBack (dirty_lines h.l1d core.l1d);
}

unfoldable pub on_core : Hierarchy → Core → Touch → PassedOn
on_core h core (Fetch line) = fetched h core line (touch_of h.l1i core.l1i line false)
on_core h core (Load line) = accessed h core line (touch_of h.l1d core.l1d line false)
on_core h core (Store line) = accessed h core line (touch_of h.l1d core.l1d line true)
on_core h core (WalkRead line) = record { cost = 0; core = core; passed = Read line ∷ [] }
on_core h core (Look page reads found) =
    looked h core page reads found (is_some (place_of h.tlb core.tlb page))
on_core h core (Branch pc taken target) = branched h core pc taken target
on_core h core (Jump pc target) = jumped h core pc target
on_core h core EmptyTlb = record { cost = 0; core = record core { tlb = empty }; passed = [] }
on_core h core Flush = flushed h core
on_core h core (Charge cycles) = record { cost = cycles; core = core; passed = [] }

-- ---- at the second level

pub record Below : Type 0 where
  pub cost : ℕ
  pub l2 : Sets

-- what memory takes, and the write-back of a line that is given up with a mark, which lines have there that are written
-- back into it
unfoldable pub missed_cost : Hierarchy → Bool → ℕ
missed_cost h dirty_victim = h.costs.mem + (if h.back && dirty_victim then h.costs.wb else 0)

unfoldable pub below_by : Hierarchy → CacheStep → Below
below_by h step = record {
  cost = h.costs.l2 + (if step.answer.hit then 0 else missed_cost h step.answer.dirty_victim);
  l2 = step.next;
}

-- a line that is always there counts as a hit and changes nothing
unfoldable pub below_if : Bool → Hierarchy → Sets → ℕ → Below
below_if true h sets line = record { cost = h.costs.l2; l2 = sets }
below_if false h sets line = below_by h (touch_of h.l2 sets line false)

-- a line that is written back into it has a mark then, if it is held; else it passes through
abbrev pub marked_where : Bool → Hierarchy → Sets → ℕ → Sets
marked_where true h sets line = marked_of h.l2 sets line
marked_where false h sets line = sets

-- `pinned`: the kernel's lines, which have colour 0, are always there
abbrev pub is_pinned : Hierarchy → Bool → ℕ → Bool
is_pinned h pinned line = pinned && colour_of_line h line == 0

unfoldable pub below : Hierarchy → Bool → Sets → Passed → Below
below h pinned sets (Read line) = below_if (is_pinned h pinned line) h sets line
below h pinned sets (WriteBack line) =
    record { cost = 0; l2 = marked_where (h.back && not (is_pinned h pinned line)) h sets line }

unfoldable pub below_all : Hierarchy → Bool → Sets → List Passed → Below
below_all h pinned sets [] = record { cost = 0; l2 = sets }
below_all h pinned sets (one ∷ passed) =
    let first = below h pinned sets one in
    let rest = below_all h pinned first.l2 passed in
    record { cost = first.cost + rest.cost; l2 = rest.l2 }

-- ---- both: a cost, and the caches after it

pub record Touched : Type 0 where
  pub cost : ℕ
  pub caches : Caches

abbrev pub at_no_cost : Caches → Touched
at_no_cost caches = record { cost = 0; caches = caches }

unfoldable pub pass_on : Hierarchy → Bool → Sets → PassedOn → Touched
pass_on h pinned sets passed =
    let b = below_all h pinned sets passed.passed in
    record { cost = passed.cost + b.cost; caches = record { core = passed.core; l2 = b.l2 } }

unfoldable pub touched : Hierarchy → Bool → Caches → Touch → Touched
touched h pinned caches touch = pass_on h pinned caches.l2 (on_core h caches.core touch)

-- one after the other
unfoldable pub and_then : Touched → (Caches → Touched) → Touched
and_then r f = let q = f r.caches in record { cost = r.cost + q.cost; caches = q.caches }

unfoldable pub touched_all : Hierarchy → Bool → Caches → List Touch → Touched
touched_all h pinned caches [] = at_no_cost caches
touched_all h pinned caches (t ∷ ts) = and_then (touched h pinned caches t) (λ k. touched_all h pinned k ts)
