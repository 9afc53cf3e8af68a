-- The rules of the machine, each with its first broken case.
use Rattle.std.specs.Prelude.{ℕ, ◌+◌, ◌%◌, ◌==◌, ◌&&◌, not, nat_eq, nat_le, nat_lt, ℤ, pos, Bool, if◌then◌else◌, List, [], ◌∷◌, length, codes, ◌||◌, Option, Some, None}
use Rattle.std.specs.Str.{bytes_eq}
use Rattle.std.specs.Int.{is_power_of_two}
use Rattle.image_record.specs.declared.refusal.Refusal.{Refusal}
use Rattle.image_record.specs.Record.{Raw, RawCache, RawCosts}
use Rattle.image_record.specs.Cases.{or_else, first_in, refusal, outside, range_case}
pub use Rattle.hardware_check.specs.Hardware.{is_size}
use Rattle.image_record.specs.Numbers.{natural_of}
use Rattle.hardware_check.specs.Hardware.{Hardware, colours_of, shared_frames, last_shared_frame, hardware_of}

-- ---- K3: the parts, 1 line, 2 l1i, 3 l1d, 4 l2, 5 tlb, 6 predictor

abbrev pub size_case : ℕ → ℕ → ℕ → ℤ → Option Refusal
size_case part low high x = if is_size low high x then None else Some (refusal 3 (pos part) x (pos 1))

abbrev pub is_policy : List ℕ → Bool
is_policy s =
    bytes_eq s (codes "lru")
    || (bytes_eq s (codes "fifo") || (bytes_eq s (codes "plru") || bytes_eq s (codes "nmru")))

-- the tree policy halves the ways of a set
abbrev pub is_uneven_tree : RawCache → Bool
is_uneven_tree c = bytes_eq c.policy (codes "plru") && not (is_power_of_two (natural_of c.ways))

-- 2: ways; 3: no policy; 4: ways that can't be halved
unfoldable pub ways_case : ℕ → RawCache → Option Refusal
ways_case part c =
    if outside (pos 1) (pos 16) c.ways then Some (refusal 3 (pos part) c.ways (pos 2))
    else if not (is_policy c.policy) then Some (refusal 3 (pos part) c.ways (pos 3))
    else if is_uneven_tree c then Some (refusal 3 (pos part) c.ways (pos 4))
    else None

unfoldable pub cache_case : ℕ → ℕ → RawCache → Option Refusal
cache_case part most c = or_else (size_case part 1 most c.sets) (ways_case part c)

-- 2: outcomes that the predictor's index takes in
abbrev pub history_case : ℤ → Option Refusal
history_case x = if outside (pos 0) (pos 8) x then Some (refusal 3 (pos 6) x (pos 2)) else None

-- its size, and its history
unfoldable pub predictor_case : ℤ → ℤ → Option Refusal
predictor_case size history = or_else (size_case 6 1 4096 size) (history_case history)

unfoldable pub k3 : Raw → Option Refusal
k3 i =
    or_else (size_case 1 16 128 i.line)
    (or_else (cache_case 2 1024 i.l1i)
    (or_else (cache_case 3 1024 i.l1d)
    (or_else (cache_case 4 16384 i.l2)
    (or_else (cache_case 5 256 i.tlb)
    (predictor_case i.predictor i.history)))))

-- ---- K4: 64 to 4,096 frames, in the second version 16,384

abbrev pub most_frames : ℕ → ℕ
most_frames version = if nat_eq version 1 then 4096 else 16384

unfoldable pub k4 : Raw → Option Refusal
k4 i = range_case 4 (pos 0) 64 (most_frames i.version) i.frames

-- ---- K5: 2 to 64 colours

unfoldable pub k5 : Raw → Option Refusal
k5 i = range_case 5 (pos 0) 2 64 (pos (colours_of (hardware_of i)))

-- ---- K6: costs of 1 to 1,000 cycles, each by its place from 1 on

abbrev pub costs_in : RawCosts → List ℤ
costs_in c = c.base ∷ c.l1 ∷ c.l2 ∷ c.mem ∷ c.wb ∷ c.tlb ∷ c.mispredict ∷ c.trap ∷ c.flush ∷ []

abbrev pub k6_cost : List ℤ → ℤ → Option Refusal
k6_cost earlier x = range_case 6 (pos (length earlier + 1)) 1 1000 x

unfoldable pub k6 : Raw → Option Refusal
k6 i = first_in k6_cost (costs_in i.costs)

-- ---- K11: the shared region

-- whole lines, one at least, of 65,536 bytes at most
unfoldable pub is_region : ℤ → ℤ → Bool
is_region line shared =
    not (outside line (pos 65536) shared) && natural_of shared % natural_of line == 0

-- 2: more frames than ways of the second level; 3: its last frame past the memory's
unfoldable pub room_case : Hardware → Option Refusal
room_case h =
    if nat_lt h.l2.ways (shared_frames h)
    then Some (refusal 11 (pos 2) (pos (shared_frames h)) (pos h.l2.ways))
    else if nat_le h.frames (last_shared_frame h)
    then Some (refusal 11 (pos 3) (pos (last_shared_frame h)) (pos h.frames))
    else None

unfoldable pub k11 : Raw → Option Refusal
k11 i =
    if is_region i.line i.shared then room_case (hardware_of i)
    else Some (refusal 11 (pos 1) i.shared (pos 65536))
