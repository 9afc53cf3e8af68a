-- Lent colours of two domains, the first broken case of their rule, and the numbers of their children.
use Rattle.std.specs.Prelude.{◌≡◌, ℕ, ℤ, pos, negsuc, List, [], ◌∷◌, map, Option, Some, None, refl}
use Rattle.std.specs.List.{range_with_len}
use Rattle.frame_colours.specs.Colours.{Whole, whole_of, pool}
use Rattle.image_record.specs.declared.refusal.Refusal.{Refusal}
use Rattle.image_record.specs.Cases.{refusal}
use Rattle.lend_check.specs.Lending.{LendingDomain, LendingEntry, lent}
use Rattle.lend_check.specs.Parties.{child_number, number_of, party_of}
use Rattle.lend_check.specs.Rule.{k21_colour, k21_entry, k21_parties, k21}

abbrev pub domain : ℤ → List ℤ → LendingDomain
domain colour lend = record { colours = colour ∷ []; lend = lend }

-- an entry of a domain's own, and one of its child
abbrev pub own : ℤ → LendingEntry
own d = record { domain = d; lend = None }

abbrev pub aside : ℤ → ℤ → LendingEntry
aside d colour = record { domain = d; lend = Some colour }

-- 64 frames of four colours
abbrev pub memory : Whole
memory = whole_of 64 4

abbrev pub told_in : Whole → ℕ → List LendingDomain → List LendingEntry → Option Refusal
told_in whole version domains schedule =
    k21 whole (record { version = version; domains = domains; schedule = schedule })

-- the rule of red, of colour 1, and blue, of colour 2, where they lend these and have these entries
abbrev pub told : List ℤ → List ℤ → List LendingEntry → Option Refusal
told red blue schedule = told_in memory 1 (domain (pos 1) red ∷ domain (pos 2) blue ∷ []) schedule

abbrev pub refused : ℕ → ℤ → ℕ → Option Refusal
refused at found wanted = Some (refusal 21 (pos at) found (pos wanted))

abbrev pub both : List LendingEntry
both = own (pos 0) ∷ own (pos 1) ∷ []

pub none : told [] [] both ≡ None
unfolding k21 k21_entry k21_parties
none = refl

pub one : told (pos 3 ∷ []) [] (own (pos 0) ∷ own (pos 1) ∷ aside (pos 0) (pos 3) ∷ []) ≡ None
unfolding k21 k21_colour k21_entry k21_parties pool
one = refl

-- ---- what may not be lent

pub of_another : told (pos 2 ∷ []) [] (own (pos 0) ∷ own (pos 1) ∷ aside (pos 0) (pos 2) ∷ []) ≡ refused 0 (pos 2) 1
unfolding k21 k21_colour
of_another = refl

pub of_itself : told [] (pos 2 ∷ []) both ≡ refused 1 (pos 2) 1
unfolding k21 k21_colour
of_itself = refl

pub of_an_earlier_one : told [] (pos 1 ∷ []) both ≡ refused 1 (pos 1) 1
unfolding k21 k21_colour
of_an_earlier_one = refl

pub of_the_kernel : told (pos 0 ∷ []) [] both ≡ refused 0 (pos 0) 1
unfolding k21 k21_colour
of_the_kernel = refl

pub past_the_last : told (pos 4 ∷ []) [] both ≡ refused 0 (pos 4) 1
unfolding k21 k21_colour
past_the_last = refl

pub negative : told (negsuc 2 ∷ []) [] both ≡ refused 0 (negsuc 2) 1
unfolding k21 k21_colour
negative = refl

pub twice : told (pos 3 ∷ pos 3 ∷ []) [] both ≡ refused 0 (pos 3) 1
unfolding k21 k21_colour pool
twice = refl

pub by_two : told (pos 3 ∷ []) (pos 3 ∷ []) both ≡ refused 1 (pos 3) 1
unfolding k21 k21_colour pool
by_two = refl

-- ---- too few frames: of 27 frames six have colour 3, of 28 seven

pub six_frames : told_in (whole_of 27 4) 1 (domain (pos 1) (pos 3 ∷ []) ∷ []) [] ≡ refused 0 (pos 3) 2
unfolding k21 k21_colour pool
six_frames = refl

pub seven_frames : told_in (whole_of 28 4) 1 (domain (pos 1) (pos 3 ∷ []) ∷ []) [] ≡ None
unfolding k21 k21_colour k21_entry k21_parties pool
seven_frames = refl

-- ---- an entry for a colour that its domain doesn't lend

pub nobody_lends : told [] [] (own (pos 0) ∷ aside (pos 0) (pos 3) ∷ []) ≡ refused 1 (pos 3) 3
unfolding k21 k21_entry
nobody_lends = refl

pub another_lends : told (pos 3 ∷ []) [] (aside (pos 0) (pos 3) ∷ aside (pos 1) (pos 3) ∷ []) ≡ refused 1 (pos 3) 3
unfolding k21 k21_colour k21_entry pool
another_lends = refl

pub nobody_there : told (pos 3 ∷ []) [] (aside (pos 2) (pos 3) ∷ []) ≡ refused 0 (pos 3) 3
unfolding k21 k21_colour k21_entry pool
nobody_there = refl

-- the first of two
pub first_entry_first : told [] [] (aside (pos 1) (negsuc 0) ∷ aside (pos 0) (pos 2) ∷ []) ≡ refused 0 (negsuc 0) 3
unfolding k21 k21_entry
first_entry_first = refl

-- ---- too many parties: a domain of colour 1 lends so many from 2 on, of 224 frames of 32 colours, or of 448 of 64

abbrev pub lends : Whole → ℕ → ℕ → Option Refusal
lends whole version many = told_in whole version (domain (pos 1) (map (λ c. pos c) (range_with_len 2 many)) ∷ []) []

pub sixteen : lends (whole_of 224 32) 1 15 ≡ None
unfolding k21 k21_colour k21_entry k21_parties pool
sixteen = refl

pub seventeen : lends (whole_of 224 32) 1 16 ≡ refused 0 (pos 17) 4
unfolding k21 k21_colour k21_entry k21_parties pool
seventeen = refl

pub thirty_two : lends (whole_of 448 64) 2 31 ≡ None
unfolding k21 k21_colour k21_entry k21_parties pool
thirty_two = refl

pub thirty_three : lends (whole_of 448 64) 2 32 ≡ refused 0 (pos 33) 4
unfolding k21 k21_colour k21_entry k21_parties pool
thirty_three = refl

-- ---- of two broken cases

-- of one colour: case 1
pub barred_and_small : told_in (whole_of 27 4) 1 (domain (pos 3) (pos 3 ∷ []) ∷ []) [] ≡ refused 0 (pos 3) 1
unfolding k21 k21_colour
barred_and_small = refl

-- place by place, in the order of the list and not of the colours
pub small_before_barred : told_in (whole_of 27 4) 1 (domain (pos 1) (pos 3 ∷ pos 0 ∷ []) ∷ []) [] ≡ refused 0 (pos 3) 2
unfolding k21 k21_colour pool
small_before_barred = refl

pub greater_before_less : told (pos 4 ∷ pos 0 ∷ []) [] both ≡ refused 0 (pos 4) 1
unfolding k21 k21_colour
greater_before_less = refl

pub first_domain_first : told (pos 4 ∷ []) (pos 0 ∷ []) both ≡ refused 0 (pos 4) 1
unfolding k21 k21_colour
first_domain_first = refl

-- colours before entries
pub barred_before_foreign : told [] (pos 0 ∷ []) (aside (pos 0) (pos 3) ∷ []) ≡ refused 1 (pos 0) 1
unfolding k21 k21_colour
barred_before_foreign = refl

pub small_before_foreign :
    told_in (whole_of 27 4) 1 (domain (pos 1) (pos 3 ∷ []) ∷ []) (aside (pos 0) (pos 2) ∷ []) ≡ refused 0 (pos 3) 2
unfolding k21 k21_colour pool
small_before_foreign = refl

-- and entries before how many parties there are
abbrev pub seventeen_and : ℤ → List LendingEntry → Option Refusal
seventeen_and first schedule =
    told_in (whole_of 224 32) 1 (domain (pos 1) (first ∷ map (λ c. pos c) (range_with_len 3 15)) ∷ []) schedule

pub foreign_before_many : seventeen_and (pos 2) (aside (pos 0) (pos 18) ∷ []) ≡ refused 0 (pos 18) 3
unfolding k21 k21_colour k21_entry pool
foreign_before_many = refl

pub barred_before_many : seventeen_and (pos 32) [] ≡ refused 0 (pos 32) 1
unfolding k21 k21_colour
barred_before_many = refl

pub small_before_many :
    told_in (whole_of 223 32) 1 (domain (pos 1) (pos 31 ∷ map (λ c. pos c) (range_with_len 2 15)) ∷ []) []
    ≡ refused 0 (pos 31) 2
unfolding k21 k21_colour pool
small_before_many = refl

-- ---- the numbers of children: red lends 5 and 3, green nothing and blue 4

abbrev pub three : List LendingDomain
three = domain (pos 1) (pos 5 ∷ pos 3 ∷ []) ∷ domain (pos 6) [] ∷ domain (pos 2) (pos 4 ∷ []) ∷ []

pub in_order : lent three ≡ (0, 5) ∷ (0, 3) ∷ (2, 4) ∷ []
in_order = refl

pub first_child : child_number three 0 (pos 5) ≡ Some 3
unfolding child_number
first_child = refl

pub second_child : child_number three 0 (pos 3) ≡ Some 4
unfolding child_number
second_child = refl

pub last_child : child_number three 2 (pos 4) ≡ Some 5
unfolding child_number
last_child = refl

pub no_child : child_number three 1 (pos 4) ≡ None
unfolding child_number
no_child = refl

pub of_entries : number_of three (party_of (own (pos 2))) ≡ Some 2
unfolding number_of
of_entries = refl

pub of_set_aside_entries : number_of three (party_of (aside (pos 2) (pos 4))) ≡ Some 5
unfolding number_of child_number
of_set_aside_entries = refl
