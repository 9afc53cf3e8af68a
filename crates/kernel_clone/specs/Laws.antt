-- What holds of every footprint, in other words than its definition's.
use Rattle.std.specs.Prelude.{◌≡◌, ℕ, ◌+◌, ◌/◌, ◌%◌, ◌<◌, Bool, true, false, ◌⊎◌, if◌then◌else◌, List, [], length, map, ◌++◌, slice_index, Option, Some, None}
use Rattle.std.specs.List.{range_with_len}
use Rattle.kernel_clone.specs.Footprints.{Layout, WorkDone, LineTouch, lines_in_frame, line_of, is_of_switch, data_count, shared_lines, shared_line}
use Rattle.kernel_clone.specs.declared.Kind.{Kind}
use Rattle.kernel_clone.specs.declared.Kind.TheVariants.{Fetch, Load, Store}

-- the frame in which a line lies
abbrev pub frame_of : Layout → ℕ → ℕ
frame_of l line = line / lines_in_frame l

-- the frame in which a byte lies
abbrev pub frame_at : ℕ → ℕ
frame_at address = address / 4096

-- ---- where a touch may be

-- the line of an entry that was written
abbrev pub IsOfEntry : Layout → WorkDone → ℕ → Type 0
IsOfEntry l w line = (k : ℕ) × (k < length w.entries) × (line ≡ slice_index w.entries k / l.line)

-- a line of the shared region, whose frame has colour 0, at an operation that isn't of a switch
pub record IsLoaded (l : Layout) (op line : ℕ) : Type 0 where
  pub shared : (k : ℕ) × (k < shared_lines l) × (line ≡ shared_line l k)
  pub colour : frame_of l line % l.colours ≡ 0
  pub call : is_of_switch op ≡ false

-- fetched is the text alone; loaded are shared lines alone; stored is everything else
abbrev pub IsPlaced : Layout → WorkDone → Kind → ℕ → Type 0
IsPlaced l w Fetch line = (frame_of l line ≡ l.text) ⊎ (frame_of l line ≡ l.more_text)
IsPlaced l w Load line = IsLoaded l w.op line
IsPlaced l w Store line =
    (frame_of l line ≡ l.stack)
    ⊎ ((frame_of l line ≡ l.data_frame) ⊎ ((w.zeroed ≡ Some (frame_of l line)) ⊎ IsOfEntry l w line))

-- a domain's frames, by a test: those in which its operations may store
pub record MayStore (own : ℕ → Bool) (l : Layout) (w : WorkDone) : Type 0 where
  pub stack : own l.stack ≡ true
  pub data_frame : own l.data_frame ≡ true
  pub zeroed : (frame : ℕ) → w.zeroed ≡ Some frame → own frame ≡ true
  pub entries : (k : ℕ) → k < length w.entries → own (frame_at (slice_index w.entries k)) ≡ true

-- what is stored is stored in a frame that passes the test
abbrev pub StoresIn : (ℕ → Bool) → Layout → LineTouch → Type 0
StoresIn own l t = t.kind ≡ Store → own (frame_of l t.line) ≡ true

-- ---- how many touches there are

abbrev pub shared_count : ℕ → ℕ
shared_count op = if is_of_switch op then 0 else 1

-- of the operation itself: text, stack, data, shared line
abbrev pub own_count : ℕ → ℕ
own_count op = 4 + 2 + data_count op + shared_count op

abbrev pub zeroed_count : Layout → Option ℕ → ℕ
zeroed_count l None = 0
zeroed_count l (Some frame) = lines_in_frame l

-- text, stack, data, shared line, zeroed frame, entries
abbrev pub count_of : Layout → WorkDone → ℕ
count_of l w = 4 + 2 + data_count w.op + shared_count w.op + zeroed_count l w.zeroed + length w.entries

-- nothing was done beside the operation's own work: a call that is refused, and most calls
pub record IsPlain (w : WorkDone) : Type 0 where
  pub zeroed : w.zeroed ≡ None
  pub entries : w.entries ≡ []

-- ---- lines, by their lists

-- a frame's lines, ascending
unfoldable pub lines_of : Layout → ℕ → List ℕ
lines_of l frame = map (line_of l frame) (range_with_len 0 (lines_in_frame l))

-- the lines of the text, one frame after the other
unfoldable pub text_lines : Layout → List ℕ
text_lines l = lines_of l l.text ++ lines_of l l.more_text
