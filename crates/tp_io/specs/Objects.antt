-- Sources and sinks in memory, as their callers see them.
use Rattle.std.specs.Prelude.{ℕ, ◌-◌, ◌<◌, ◌≤◌, min, List, [], ◌∷◌, ◌++◌, length, take, drop, Option, Some, None, Result, Ok, Err}
use Rattle.tp_io.specs.Calls.{Calls, no_calls, call_made, call_failed, IsFaultless}

pub record MemSourceState : Type 0 where
  pub rest : List ℕ  -- the bytes that are left
  pub most : ℕ  -- the most bytes that a call gives
  pub calls : Calls

-- a source of all these bytes
abbrev pub new_source : List ℕ → ℕ → List ℕ → MemSourceState
new_source bytes most failing = record { rest = bytes; most = most; calls = no_calls failing }

-- how many bytes a call gives that doesn't fail
abbrev pub given : MemSourceState → ℕ → ℕ
given s room = min s.most (min (length s.rest) room)

-- the source after a read with this result
abbrev pub after_read : {E : Type 0} → MemSourceState → Result ℕ E → MemSourceState
after_read s (Ok n) = record s { rest = drop n s.rest; calls = call_made s.calls }
after_read s (Err _) = record s { calls = call_failed s.calls }

pub record MemSinkState : Type 0 where
  pub bytes : List ℕ  -- what was written
  pub room : ℕ  -- the most bytes that it ever holds
  pub most : ℕ  -- the most bytes that a call takes
  pub calls : Calls

-- an empty sink
abbrev pub new_sink : ℕ → ℕ → List ℕ → MemSinkState
new_sink room most failing = record { bytes = []; room = room; most = most; calls = no_calls failing }

-- how many of so many bytes a call takes that doesn't fail
abbrev pub taken : MemSinkState → ℕ → ℕ
taken k wanted = min k.most (min (k.room - length k.bytes) wanted)

-- the sink after a write of this piece with this result
abbrev pub after_write : {E : Type 0} → MemSinkState → List ℕ → Result ℕ E → MemSinkState
after_write k piece (Ok n) = record k { bytes = k.bytes ++ take n piece; calls = call_made k.calls }
after_write k piece (Err _) = record k { calls = call_failed k.calls }

-- where no call is listed, all the room that is left
abbrev pub sure_room : List ℕ → ℕ → Option ℕ
sure_room [] left = Some left
sure_room (_ ∷ _) left = None

-- how many more bytes a sink surely takes
abbrev pub surely_taken : MemSinkState → Option ℕ
surely_taken k = sure_room k.calls.failing (k.room - length k.bytes)

-- a piece that isn't empty finds no room left
pub record FindsNoRoom (k : MemSinkState) (piece : List ℕ) : Type 0 where
  pub full : k.room ≤ length k.bytes
  pub some : 0 < length piece

-- where no call is listed and room is left, none has failed
abbrev pub IsFaultlessWithRoom : MemSinkState → Type 0
IsFaultlessWithRoom k = length k.bytes < k.room → IsFaultless k.calls

-- a source's place is within its bytes, it can give some, and it has no fault without a cause
pub record IsSourceSound (size at most : ℕ) (calls : Calls) : Type 0 where
  pub within : at ≤ size
  pub some : 0 < most
  pub faultless : IsFaultless calls

-- a sink's bytes are within its room, for which there is memory, it can take some,
-- and it has no fault without a cause
pub record IsSinkSound (capacity size room most : ℕ) (calls : Calls) : Type 0 where
  pub reserved : room ≤ capacity
  pub within : size ≤ room
  pub some : 0 < most
  pub faultless : size < room → IsFaultless calls
