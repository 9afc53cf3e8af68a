-- What a kernel operation touches in its domain's kernel clone, in the shared region, and in the frames that it writes.
use Rattle.std.specs.Prelude.{◌≡◌, ℕ, ◌+◌, ◌*◌, ◌/◌, ◌%◌, ◌≤◌, nat_eq, nat_lt, Bool, ◌||◌, if◌then◌else◌, List, [], ◌∷◌, ◌++◌, map, Option, Some, None}
use Rattle.std.specs.Int.{IsPowerOfTwo}
use Rattle.std.specs.List.{range_with_len}
use Rattle.tp_base.specs.Ranges.{IsFrameNo}
use Rattle.kernel_clone.specs.declared.operation.Call.{Call}
use Rattle.kernel_clone.specs.declared.operation.Call.TheVariants.{Exit, Put, Alloc, Table, Map, Unmap, Copy, Delete, Revoke, Poll, Wait, Signal, Spawn, Yield, EndThread, Send, Receive}
use Rattle.kernel_clone.specs.declared.Kind.{Kind}
use Rattle.kernel_clone.specs.declared.Kind.TheVariants.{Fetch, Load, Store}

-- a domain's kernel clone, in its frames, and the shared region of all clones
pub record Layout : Type 0 where
  pub text : ℕ  -- the first frame of its text
  pub more_text : ℕ  -- the second
  pub stack : ℕ
  pub data_frame : ℕ
  pub line : ℕ  -- bytes of a line
  pub shared : ℕ  -- bytes of the shared region
  pub colours : ℕ

-- what an operation did beside its own work: the frame that it zeroed, and the addresses of the entries that it wrote
pub record WorkDone : Type 0 where
  pub op : ℕ
  pub zeroed : Option ℕ
  pub entries : List ℕ

pub record LineTouch : Type 0 where
  pub line : ℕ  -- physical
  pub kind : Kind

-- ---- operations, by number: the calls, and what the kernel does besides

abbrev pub call_number : Call → ℕ
call_number Exit = 0
call_number Put = 1
call_number Alloc = 2
call_number Table = 3
call_number Map = 4
call_number Unmap = 5
call_number Copy = 6
call_number Delete = 7
call_number Revoke = 8
call_number Poll = 9
call_number Wait = 10
call_number Signal = 11
call_number Spawn = 12
call_number Yield = 13
call_number EndThread = 14
call_number Send = 19
call_number Receive = 20

abbrev pub delivery_op : ℕ
delivery_op = 15

abbrev pub leave_op : ℕ
leave_op = 16

abbrev pub enter_op : ℕ
enter_op = 17

abbrev pub bad_call_op : ℕ
bad_call_op = 18

-- a domain leaves or enters
abbrev pub is_of_switch : ℕ → Bool
is_of_switch op = nat_eq op leave_op || nat_eq op enter_op

-- ---- lines

abbrev pub lines_in_frame : Layout → ℕ
lines_in_frame l = 4096 / l.line

abbrev pub line_of : Layout → ℕ → ℕ → ℕ
line_of l frame i = frame * lines_in_frame l + i

-- line j of the text's two frames
abbrev pub text_line : Layout → ℕ → ℕ
text_line l j =
    if nat_lt j (lines_in_frame l) then line_of l l.text j else line_of l l.more_text (j % lines_in_frame l)

abbrev pub shared_lines : Layout → ℕ
shared_lines l = l.shared / l.line

-- line i of the shared region, whose frames have colour 0
abbrev pub shared_line : Layout → ℕ → ℕ
shared_line l i = line_of l (i / lines_in_frame l * l.colours) (i % lines_in_frame l)

abbrev pub touch_of : Kind → ℕ → LineTouch
touch_of kind line = record { line = line; kind = kind }

-- lines side by side, ascending
unfoldable pub run_of : Kind → ℕ → ℕ → List LineTouch
run_of kind first count = map (λ i. touch_of kind (first + i)) (range_with_len 0 count)

-- ---- the footprint, in its order

unfoldable pub text_touches : Layout → ℕ → List LineTouch
text_touches l op =
    map (λ i. touch_of Fetch (text_line l ((4 * op + i) % (2 * lines_in_frame l)))) (range_with_len 0 4)

unfoldable pub stack_touches : Layout → List LineTouch
stack_touches l = map (λ i. touch_of Store (line_of l l.stack i)) (range_with_len 0 2)

-- a switch has less to keep
abbrev pub data_count : ℕ → ℕ
data_count op = if is_of_switch op then 1 else 2

unfoldable pub data_touches : Layout → ℕ → List LineTouch
data_touches l op =
    map (λ i. touch_of Store (line_of l l.data_frame ((2 * op + i) % lines_in_frame l)))
    (range_with_len 0 (data_count op))

unfoldable pub shared_touches : Layout → ℕ → List LineTouch
shared_touches l op = if is_of_switch op then [] else touch_of Load (shared_line l (op % shared_lines l)) ∷ []

-- of the operation itself, whatever it wrote
unfoldable pub own_touches : Layout → ℕ → List LineTouch
own_touches l op = text_touches l op ++ (stack_touches l ++ (data_touches l op ++ shared_touches l op))

-- each line of a frame that was zeroed
unfoldable pub zeroed_touches : Layout → Option ℕ → List LineTouch
zeroed_touches l None = []
zeroed_touches l (Some frame) =
    map (λ i. touch_of Store (line_of l frame i)) (range_with_len 0 (lines_in_frame l))

-- the line of each entry that was written
unfoldable pub entry_touches : Layout → List ℕ → List LineTouch
entry_touches l entries = map (λ at. touch_of Store (at / l.line)) entries

-- of the work alone
abbrev pub written_touches : Layout → WorkDone → List LineTouch
written_touches l w = zeroed_touches l w.zeroed ++ entry_touches l w.entries

unfoldable pub touches : Layout → WorkDone → List LineTouch
touches l w =
    text_touches l w.op
    ++ (stack_touches l ++ (data_touches l w.op ++ (shared_touches l w.op ++ written_touches l w)))

-- ---- what is a layout

pub record IsLayout (l : Layout) : Type 0 where
  pub power : IsPowerOfTwo l.line
  pub least_line : 16 ≤ l.line
  pub most_line : l.line ≤ 128  -- so a line divides a frame
  pub some_shared : l.line ≤ l.shared
  pub most_shared : l.shared ≤ 65536
  pub whole_lines : l.shared % l.line ≡ 0
  pub some_colours : 2 ≤ l.colours
  pub few_colours : l.colours ≤ 64
  pub text : IsFrameNo l.text
  pub more_text : IsFrameNo l.more_text
  pub stack : IsFrameNo l.stack
  pub data_frame : IsFrameNo l.data_frame
