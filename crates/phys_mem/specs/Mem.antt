-- Memory as the definitions of the machine have it: a finite map from frames to finite maps from places to words.
-- What was never written reads zero, and no frame has an end.
use Rattle.std.specs.Prelude.{◌≡◌, ◌≢◌, ℕ}
use Rattle.std.proofs.Common.{◌∙◌, ap}
use Rattle.tp_base.specs.Table.{Table, empty, at, put, at-empty, at-put_same, at-put_other}

-- the words of a frame, by place
abbrev pub Frame : Type 0
Frame = Table ℕ

-- the frames, by number
abbrev pub Mem : Type 0
Mem = Table Frame

unfoldable pub frame_at : Mem → ℕ → Frame
frame_at mem frame = at empty mem frame

-- the word in a frame at a place from 0 to 1,023
unfoldable pub word : Mem → ℕ → ℕ → ℕ
word mem frame place = at 0 (frame_at mem frame) place

unfoldable pub written : Mem → ℕ → ℕ → ℕ → Mem
written mem frame place value = put mem frame (put (frame_at mem frame) place value)

unfoldable pub zeroed_frame : Mem → ℕ → Mem
zeroed_frame mem frame = put mem frame empty

-- ---- what frames and words are after each change

pub frame_at-empty : (frame : ℕ) → frame_at empty frame ≡ empty
unfolding frame_at
frame_at-empty frame = at-empty empty frame

pub frame_at-written_other : (mem : Mem) (frame place value other : ℕ) → other ≢ frame
    → frame_at (written mem frame place value) other ≡ frame_at mem other
unfolding frame_at written
frame_at-written_other mem frame place value other apart =
    at-put_other empty mem frame other (put (at empty mem frame) place value) apart

pub frame_at-zeroed_same : (mem : Mem) (frame : ℕ) → frame_at (zeroed_frame mem frame) frame ≡ empty
unfolding frame_at zeroed_frame
frame_at-zeroed_same mem frame = at-put_same empty mem frame empty

pub frame_at-zeroed_other : (mem : Mem) (frame other : ℕ) → other ≢ frame
    → frame_at (zeroed_frame mem frame) other ≡ frame_at mem other
unfolding frame_at zeroed_frame
frame_at-zeroed_other mem frame other apart = at-put_other empty mem frame other empty apart

pub word-empty : (frame place : ℕ) → word empty frame place ≡ 0
unfolding word
word-empty frame place = ap (λ (words : Frame). at 0 words place) (frame_at-empty frame) ∙ at-empty 0 place

pub word-written_same : (mem : Mem) (frame place value : ℕ)
    → word (written mem frame place value) frame place ≡ value
unfolding word frame_at written
word-written_same mem frame place value =
    ap (λ (words : Frame). at 0 words place)
    (at-put_same empty mem frame (put (at empty mem frame) place value))
    ∙ at-put_same 0 (at empty mem frame) place value

-- another place of the frame
pub word-written_place : (mem : Mem) (frame place value other : ℕ) → other ≢ place
    → word (written mem frame place value) frame other ≡ word mem frame other
unfolding word frame_at written
word-written_place mem frame place value other apart =
    ap (λ (words : Frame). at 0 words other)
    (at-put_same empty mem frame (put (at empty mem frame) place value))
    ∙ at-put_other 0 (at empty mem frame) place other value apart

-- another frame
pub word-written_frame : (mem : Mem) (frame place value other i : ℕ) → other ≢ frame
    → word (written mem frame place value) other i ≡ word mem other i
unfolding word
word-written_frame mem frame place value other i apart =
    ap (λ (words : Frame). at 0 words i) (frame_at-written_other mem frame place value other apart)

pub word-zeroed_same : (mem : Mem) (frame i : ℕ) → word (zeroed_frame mem frame) frame i ≡ 0
unfolding word
word-zeroed_same mem frame i =
    ap (λ (words : Frame). at 0 words i) (frame_at-zeroed_same mem frame) ∙ at-empty 0 i

pub word-zeroed_other : (mem : Mem) (frame other i : ℕ) → other ≢ frame
    → word (zeroed_frame mem frame) other i ≡ word mem other i
unfolding word
word-zeroed_other mem frame other i apart =
    ap (λ (words : Frame). at 0 words i) (frame_at-zeroed_other mem frame other apart)
