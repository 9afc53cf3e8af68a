-- The frames of a memory by page colours: a frame's colour, shares of the colours, and the pool of a share.
use Rattle.std.specs.Prelude.{◌≡◌, ◌≢◌, ℕ, ◌<◌, ◌%◌, Bool, true, false, not, ◌&&◌, nat_eq, nat_lt, List, [], ◌∷◌, map, filter, slice_index, slice_index_or}
use Rattle.std.specs.List.{list_any, list_all, range_with_len}
use Rattle.std.proofs.Common.{Vec, Global}

-- all frames of a memory, and the number of colours that they have
pub record Whole : Type 0 where
  pub frames : ℕ
  pub colours : ℕ

abbrev pub whole_of : ℕ → ℕ → Whole
whole_of frames colours = record { frames = frames; colours = colours }

-- a list of colours of such a memory
pub record Share : Type 0 where
  pub frames : ℕ
  pub colours : ℕ
  pub own : List ℕ

abbrev pub share_of : Whole → List ℕ → Share
share_of whole own = record { frames = whole.frames; colours = whole.colours; own = own }

-- ---- colours

-- a frame's colour, of so many
abbrev pub colour_of : ℕ → ℕ → ℕ
colour_of colours frame = frame % colours

-- whether a number stands in a list
abbrev pub has : List ℕ → ℕ → Bool
has numbers n = list_any (λ m. nat_eq m n) numbers

-- whether a frame's colour is one of the share's
abbrev pub has_colour : Share → ℕ → Bool
has_colour share frame = has share.own (colour_of share.colours frame)

-- the frame is one of the share's
pub record IsOwn (share : Share) (frame : ℕ) : Type 0 where
  pub below : frame < share.frames
  pub coloured : has_colour share frame ≡ true

-- ---- the pool

-- the frames of a share, ascending
unfoldable pub pool : Share → List ℕ
pool share = filter (has_colour share) (range_with_len 0 share.frames)

-- frame n of them, from 0 on
unfoldable pub frame_at : Share → ℕ → ℕ
frame_at share n = slice_index (pool share) n

-- ---- several shares

-- the colours that lists in memory name
abbrev pub colours_in : List (Vec ℕ Global) → List (List ℕ)
colours_in lists = map (λ list. list.items) lists

-- list i; past the last one it is empty
abbrev pub list_at : List (List ℕ) → ℕ → List ℕ
list_at lists i = slice_index_or lists i []

-- colours can be shared out so: each is in range, none is 0, and none stands in two of the lists
pub record AreDisjoint (colours : ℕ) (lists : List (List ℕ)) : Type 0 where
  pub in_range : (i c : ℕ) → has (list_at lists i) c ≡ true → c < colours
  pub no_zero : (i : ℕ) → has (list_at lists i) 0 ≡ false
  pub apart : (i j c : ℕ) → i ≢ j → has (list_at lists i) c ≡ true → has (list_at lists j) c ≡ false

-- whether a colour may be shared out
abbrev pub is_shareable : ℕ → ℕ → Bool
is_shareable colours c = nat_lt 0 c && nat_lt c colours

-- whether no number of one list stands in the other
abbrev pub has_none_of : List ℕ → List ℕ → Bool
has_none_of own other = list_all (λ c. not (has other c)) own

-- `AreDisjoint` as a test: of each list its colours, and that none of them stands in a later list
abbrev pub are_disjoint : ℕ → List (List ℕ) → Bool
are_disjoint colours [] = true
are_disjoint colours (own ∷ lists) =
    list_all (is_shareable colours) own && (list_all (has_none_of own) lists && are_disjoint colours lists)

-- share i; past the last one it has no frame
abbrev pub share_at : List Share → ℕ → Share
share_at shares i = slice_index_or shares i (record { frames = 0; colours = 0; own = [] })

-- no frame is of two shares, and none of colour 0 is of any
pub record AreApart (shares : List Share) : Type 0 where
  pub once : (i j f : ℕ) → i ≢ j → IsOwn (share_at shares i) f → ¬ IsOwn (share_at shares j) f
  pub no_zero : (i f : ℕ) → IsOwn (share_at shares i) f → colour_of (share_at shares i).colours f ≢ 0
