-- Worked ends: red, on hart 0, has a box to blue, on hart 1, whose slot follows that of green.
use Rattle.std.specs.Prelude.{◌≡◌, ℕ, false, List, [], ◌∷◌, None, refl}
use Rattle.sched_table.specs.declared.schedule.Entry.{Entry}
use Rattle.sched_table.specs.Schedule.{start, entries_on, hart_for}
use Rattle.kernel_clone.specs.Permissions.{may_make, every_call, calls_below}
use Rattle.pad_bound.specs.Bound.{most_written, worst_instruction, worst_operation}
use Rattle.hardware_check.specs.declared.hardware.Policy.TheVariants.{Lru}
use Rattle.hardware_check.specs.Hardware.{CacheShape, Hardware}
use Rattle.image_check.specs.Own.{Own, no_own}
use Rattle.image_check.specs.Image.{Image}
use Rattle.world_view.specs.Harts.{end_on, hart_of_domain}
use Rattle.mail_orders.specs.Apart.{longest_in, EndsBefore, AreApart, ChainApart}

abbrev pub cache : ℕ → ℕ → CacheShape
cache sets ways = record { sets = sets; ways = ways; policy = Lru }

abbrev pub machine : Hardware
machine = record {
  frames = 80;
  shared = 512;
  line = 64;
  l1i = cache 16 2;
  l1d = cache 16 2;
  l2 = cache 512 4;
  back = false;
  tlb = cache 4 2;
  predictor = 16;
  history = 0;
  costs =
      record { base = 1; l1 = 1; l2 = 8; mem = 40; wb = 10; tlb = 1; mispredict = 3; trap = 10; flush = 20 };
  muldiv = None;
  targets = 0;
}

-- red is domain 0, blue 1, green 2; green's slot has this length
abbrev pub entries : ℕ → List Entry
entries length =
    record { domain = 0; length = 10000; pad = 30000; hart = 0 }
    ∷ record { domain = 2; length = length; pad = 35001; hart = 1 }
    ∷ record { domain = 1; length = 5000; pad = 30000; hart = 1 } ∷ []

-- each of them may make every call
abbrev pub any : ℕ → Own
any number = record no_own { number = number; makes = every_call }

abbrev pub beside : ℕ → Image
beside length = record {
  all = record { version = 2; hardware = machine; schedule = entries length; domains = 3; mail = (0, 1) ∷ [] };
  owns = any 0 ∷ any 1 ∷ any 2 ∷ [];
}

pub of_blue : hart_of_domain (beside 5417) 1 ≡ 1
unfolding hart_for
of_blue = refl

-- ---- in cycles

pub longest : longest_in (beside 5417) 1 0 ≡ 4583
unfolding worst_instruction worst_operation most_written may_make calls_below entries_on
longest = refl

pub red_ends : end_on (beside 5417) 0 0 ≡ 40000
unfolding start entries_on
red_ends = refl

-- just so long before that
pub green_ends : end_on (beside 5417) 1 0 ≡ 35417
unfolding start entries_on
green_ends = refl

-- or a cycle before it
pub green_ends_late : end_on (beside 9999) 1 0 ≡ 39999
unfolding start entries_on
green_ends_late = refl

-- ---- whose switch comes first

-- that of green's hart, whatever red and green do
abbrev pub EarlyRow : Type 0
EarlyRow = EndsBefore (beside 5417) 1 0 0 0

-- a cycle less, and it goes by what they do
abbrev pub NotEarlyRow : Type 0
NotEarlyRow = EndsBefore (beside 5418) 1 0 0 0 → ⊥

-- red's does not come first for that, even where green's slot ends a cycle before red's
abbrev pub NotApartRow : Type 0
NotApartRow = AreApart (beside 9999) 2 0 1 → ⊥

-- ---- of two slots of each hart

abbrev pub ApartRow : Type 0
ApartRow = AreApart (beside 5417) 2 0 1

-- so what is seen of blue goes by red and blue alone
abbrev pub ChainApartRow : Type 0
ChainApartRow = ChainApart (beside 5417) 1 2
