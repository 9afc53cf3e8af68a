-- Worked tallies: the first events of a domain alone, and a few touches of caches of one line each.
use Rattle.std.specs.Prelude.{◌≡◌, ℕ, ◌+◌, ◌==◌, not, true, false, List, [], ◌∷◌, filter, None, refl}
use Rattle.tp_base.specs.Table.{empty, at, put}
use Rattle.set_cache.specs.Cache.{Shape}
use Rattle.cycle_cost.specs.Costs.{CostTable}
use Rattle.kernel_clone.specs.Footprints as clone
use Rattle.kernel_clone.specs.Footprints.{Layout}
use Rattle.mem_system.specs.Hierarchy.{Hierarchy, colour_of_line}
use Rattle.mem_system.specs.Cost.{Touch, Fetch, Load, Store, Look, Branch, Jump, EmptyTlb, Flush, Caches, cold, fresh_core, fetched, accessed, looked, guessed, branched, jumped, flushed, on_core, missed_cost, below_by, below_if, below, below_all, pass_on, touched, and_then, touched_all}
use Rattle.mem_system.specs.Operations.{footprint, operation, plain, enter}
use Rattle.mem_system.specs.Tally.{Tally, none, plus, price, one_guess, one_look, one_access, tally_access, tally_on_core, one_read, tally_by, tally_if, tally_below, tally_below_all, tally, tally_all}
use Rattle.mem_system.specs.TallyLaws.{in_first, in_second, in_memory}

-- all that a tally computes with
unfoldable everything : ℕ
unfolding empty at put colour_of_line cold fresh_core fetched accessed looked guessed branched jumped flushed
    on_core missed_cost below_by below_if below below_all pass_on touched and_then touched_all
    clone.text_touches clone.stack_touches clone.data_touches clone.shared_touches clone.zeroed_touches
    clone.entry_touches clone.touches footprint operation enter none plus price one_guess one_look one_access
    tally_access tally_on_core one_read tally_by tally_if tally_below tally_below_all tally tally_all
everything = 0

abbrev costs : CostTable
costs =
    record { base = 1; l1 = 1; l2 = 8; mem = 40; wb = 10; tlb = 1; mispredict = 3; trap = 10; flush = 20 }

-- least recently used, the newest way first
abbrev last : List ℕ → ℕ
last [] = 0
last (way ∷ []) = way
last (way ∷ next ∷ ways) = last (next ∷ ways)

abbrev to_front : List ℕ → ℕ → List ℕ
to_front ways way = way ∷ filter (λ other. not (other == way)) ways

abbrev sets_of : ℕ → ℕ → Shape
sets_of ways count =
    record { rule = record { touched = to_front; filled = to_front; victim = last }; ways = ways; count = count }

-- ---- a domain alone: its program is page 16, in frame 25, its root in frame 17, and its table in 21

abbrev machine : Hierarchy
machine = record {
  costs = costs;
  products = None;
  line_size = 64;
  back = false;
  predictor = record { counters = 16; history = 0; targets = 0 };
  l1i = sets_of 2 16;
  l1d = sets_of 2 16;
  l2 = sets_of 4 256;
  tlb = sets_of 2 4;
}

abbrev layout : Layout
layout = record { text = 1; more_text = 5; stack = 9; data_frame = 13; line = 64; shared = 512; colours = 4 }

-- it has been entered
abbrev entered : Caches
entered = (touched_all machine true (cold machine) (enter layout)).caches

-- an instruction: its page is looked up, by its two entries if need be, and it is fetched
abbrev instruction : List Touch → List Touch
instruction more = Look 16 (1088 ∷ 1345 ∷ []) true ∷ Fetch 1600 ∷ more

abbrev fetched_once : Caches
fetched_once = (touched_all machine true entered (instruction [])).caches

-- a call of PUT, and one of EXIT
abbrev call_of : ℕ → List Touch
call_of number = instruction (operation costs layout (plain number))

abbrev called_once : Caches
called_once = (touched_all machine true fetched_once (call_of 1)).caches

-- all three lines come from memory
first_instruction : tally_all machine true entered (instruction [])
    ≡ record none { fetches = in_memory; looks_walked = 1; reads_memory = 2 }
unfolding everything
first_instruction = refl

first_price : price costs (tally_all machine true entered (instruction [])) ≡ 146
unfolding everything
first_price = refl

first_cost : (touched_all machine true entered (instruction [])).cost ≡ 146
unfolding everything
first_cost = refl

-- and then they are there
next_instruction : tally_all machine true fetched_once (instruction [])
    ≡ record none { fetches = in_first; looks_kept = 1 }
unfolding everything
next_instruction = refl

-- the kernel's text comes from memory, its shared line is always there, and its stack was touched as it entered
first_call : tally_all machine true fetched_once (call_of 1) ≡ record none {
  fetches = record { first = 1; second = 0; memory = 4 };
  loads = in_second;
  stores = record { first = 2; second = 0; memory = 2 };
  looks_kept = 1;
  charged = 10;
}
unfolding everything
first_call = refl

first_call_price : price costs (tally_all machine true fetched_once (call_of 1)) ≡ 317
unfolding everything
first_call_price = refl

-- here the shared line takes the place of the stack's, which is dirty
second_call : tally_all machine true called_once (call_of 0) ≡ record none {
  fetches = record { first = 1; second = 0; memory = 4 };
  loads = in_second;
  stores = record { first = 2; second = 0; memory = 2 };
  looks_kept = 1;
  backs_first = 1;
  charged = 10;
}
unfolding everything
second_call = refl

second_call_price : price costs (tally_all machine true called_once (call_of 0)) ≡ 327
unfolding everything
second_call_price = refl

-- ---- caches of one line each, where lines are written back into the second level

abbrev tiny : Hierarchy
tiny = record {
  costs = costs;
  products = None;
  line_size = 64;
  back = true;
  predictor = record { counters = 2; history = 0; targets = 1 };
  l1i = sets_of 1 1;
  l1d = sets_of 1 1;
  l2 = sets_of 1 1;
  tlb = sets_of 1 1;
}

abbrev after : List Touch → Caches
after touches = (touched_all tiny false (cold tiny) touches).caches

-- after these touches, what one more counts
abbrev counts : List Touch → Touch → Tally
counts touches = tally tiny false (after touches)

-- line 1 is in both levels, dirty in the first; it is written back into the second, and then gives way there, too
both_give_up : counts (Store 1 ∷ []) (Load 2)
    ≡ record none { loads = in_memory; backs_first = 1; backs_second = 1 }
unfolding everything
both_give_up = refl

both_give_up_price : price costs (counts (Store 1 ∷ []) (Load 2)) ≡ 1 + 8 + 40 + 10 + 10
unfolding everything
both_give_up_price = refl

-- a fetch has put another there, so that it passes through
one_gives_up : counts (Store 1 ∷ Fetch 3 ∷ []) (Store 2) ≡ record none { stores = in_memory; backs_first = 1 }
unfolding everything
one_gives_up = refl

clean : counts (Load 1 ∷ []) (Load 2) ≡ record none { loads = in_memory }
unfolding everything
clean = refl

kept_below : counts (Load 1 ∷ []) (Fetch 1) ≡ record none { fetches = in_second }
unfolding everything
kept_below = refl

-- the first entry takes the place of a line that the flush wrote back, the second that of the first
walked : counts (Store 1 ∷ Load 2 ∷ Store 2 ∷ Flush ∷ []) (Look 5 (4 ∷ 6 ∷ []) true)
    ≡ record none { looks_walked = 1; reads_memory = 2; backs_second = 1 }
unfolding everything
walked = refl

flushed_once : counts (Store 1 ∷ []) Flush ≡ record none { backs_first = 1; charged = 20 }
unfolding everything
flushed_once = refl

flushed_twice : counts (Store 1 ∷ Flush ∷ []) Flush ≡ record none { charged = 20 }
unfolding everything
flushed_twice = refl

-- a wrong guess counts once: by what is done and by where it goes, or by one of them
wrongly_done : counts [] (Branch 0 true 8) ≡ record none { guesses_wrong = 1 }
unfolding everything
wrongly_done = refl

wrong_place : counts (Branch 4 true 12 ∷ []) (Branch 12 true 8) ≡ record none { guesses_wrong = 1 }
unfolding everything
wrong_place = refl

rightly_done : counts [] (Branch 0 false 8) ≡ record none { guesses_right = 1 }
unfolding everything
rightly_done = refl

gone_before : counts (Jump 0 8 ∷ []) (Jump 0 8) ≡ record none { guesses_right = 1 }
unfolding everything
gone_before = refl

emptied : counts (Look 5 [] true ∷ []) EmptyTlb ≡ none
unfolding everything
emptied = refl
