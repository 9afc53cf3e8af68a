-- What the code's domain and memory have to be for its kernel calls, and how these end.
use Rattle.std.specs.Prelude.{◌≡◌, ℕ, List, [], length, None, Result, Ok, Err, ◌⊎◌}
use Rattle.std.proofs.Common.{inl, inr}
use Rattle.tp_base.specs.Act as act
use Rattle.phys_mem.specs.Contents.{Contents}
use Rattle.phys_mem.specs.Holds.{Holds}
use Rattle.phys_mem.specs.Mem.{Mem}
use Rattle.frame_colours.specs.FreeList.{FreeList}
use Rattle.kernel_clone.specs.Footprints.{WorkDone}
use Rattle.kernel_clone.specs.Models.{work_model}
use Rattle.kernel_clone.specs.declared.Work.{Work}
use Rattle.call_table.specs.Domain.{Dom, done, refused}
use Rattle.call_table.specs.Claims.{Estate, is_mine, claims, free_frames, Facts, IsEstate}
use Rattle.call_table.specs.Calls.{Note, Act, work_of}
use Rattle.call_table.specs.declared.Reply.{Reply}
use Rattle.kernel_call.specs.declared.domain.Domain.{Domain}
use Rattle.kernel_call.specs.declared.error.CallError.{CallError}
use Rattle.kernel_call.specs.declared.error.CallError.TheVariants as error
use Rattle.kernel_call.specs.Models.{dom_model}

-- ---- the facts

-- the frames of the domain that no claim names are the pool's free ones; so are its share and its root the estate's
abbrev pub pool_of : Estate → Domain → FreeList
pool_of e d = record { share = e.share; free = free_frames e d.caps }

-- the domain has this estate
pub record Has (e : Estate) (d : Domain) : Type 0 where
  pub root : d.map ≡ e.root
  pub pool : d.pool ≡ pool_of e d
  pub slots : length d.caps ≡ 64
  pub calls : d.calls ≡ e.calls
  pub number : d.number ≡ e.number

-- the facts of frames and page tables hold of it in a memory
pub record HasFacts (e : Estate) (memory : Contents) (m : Mem) (d : Domain) : Type 0 where
  pub estate : IsEstate e
  pub frames : e.share.frames ≡ memory.frames
  pub has : Has e d
  pub holds : Holds memory m
  pub facts : Facts e.root (is_mine e) (claims e d.caps) m

-- they hold of some estate and some memory that the code's stands for
pub record Valid (memory : Contents) (d : Domain) : Type 0 where
  pub estate : Estate
  pub mem : Mem
  pub facts : HasFacts estate memory mem d

-- ---- how calls end

-- what no call on slots, frames and page tables changes but its reply
pub record KeepsRest (old new : Domain) : Type 0 where
  pub status : new.status ≡ old.status
  pub threads : new.threads ≡ old.threads
  pub interrupts : new.interrupts ≡ old.interrupts
  pub map : new.map ≡ old.map
  pub tables : new.tables ≡ old.tables
  pub kept : new.kept ≡ old.kept
  pub layout : new.layout ≡ old.layout
  pub calls : new.calls ≡ old.calls
  pub number : new.number ≡ old.number
  pub retired : new.retired ≡ old.retired
  pub readings : new.readings ≡ old.readings
  pub replies : new.replies ≡ old.replies

-- 1 BadCall to 16 NoMail
abbrev pub code_of : CallError → ℕ
code_of error.BadCall = 1
code_of error.BadSlot = 2
code_of error.Empty = 3
code_of error.Used = 4
code_of error.WrongKind = 5
code_of error.BadRights = 6
code_of error.BadAddress = 7
code_of error.Mapped = 8
code_of error.NoTable = 9
code_of error.NoFrame = 10
code_of error.OutputFull = 11
code_of error.InUse = 12
code_of error.NoThread = 13
code_of error.NoBox = 14
code_of error.BoxFull = 15
code_of error.NoMail = 16

-- a refusal of this domain, or a value
abbrev pub end_of : {A : Type 0} → Dom → Result A CallError → Dom ⊎ A
end_of d (Ok x) = inr x
end_of d (Err x) = inl (refused (code_of x) d)

-- a step that does nothing but end so
abbrev pub reads : {A : Type 0} → Mem → Dom ⊎ A → act.Done Mem Note Dom A
reads m v = record { notes = []; state = m; value = v }

-- for this domain of the code, whatever its logs, and in every memory, the step does nothing but end as the code answers
abbrev pub Finds : {A : Type 0} → (Dom → Act A) → Result A CallError → Domain → Type 0
Finds f result d = (readings : List ℕ) (replies : List Reply) (m : Mem)
    → f (dom_model d readings replies) m ≡ reads m (end_of (dom_model d readings replies) result)

-- what a call that was done gives, and the work that the code tells of it
pub record Done : Type 0 where
  pub value : ℕ
  pub work : Work

-- how a call ends, with that work
abbrev pub with_work : Result ℕ CallError → Work → Result Done CallError
with_work (Ok x) work = Ok (record { value = x; work = work })
with_work (Err x) work = Err x

-- the work of an operation that zeroed no frame and wrote no entry
abbrev pub nothing : ℕ → WorkDone
nothing op = record { op = op; zeroed = None; entries = [] }

-- the value of a call, of the domain as the code leaves it before the reply
abbrev pub call_end : Dom → Dom → Result Done CallError → Dom ⊎ Dom
call_end old new (Ok x) = inr (done x.value new)
call_end old new (Err x) = inl (refused (code_of x) old)

-- the work that the code tells, of a call with this number
abbrev pub TellsWork : ℕ → Result Done CallError → List Note → Type 0
TellsWork number (Ok x) notes = work_model x.work ≡ work_of number notes
TellsWork number (Err x) notes = notes ≡ []

-- a call of the code does what this action does
pub record Ends (number : ℕ) (e : Estate) (old new : Domain) (memory : Contents) (readings : List ℕ)
    (replies : List Reply)
    (result : Result Done CallError) (r : act.Done Mem Note Dom Dom) : Type 0 where
  pub value : r.value ≡ call_end (dom_model old readings replies) (dom_model new readings replies) result
  pub holds : Holds memory r.state
  pub work : TellsWork number result r.notes
  pub has : Has e new

-- whatever logs, estate and memory the old domain and memory stand for
abbrev pub Does : ℕ → (Estate → Dom → Act Dom) → Result Done CallError → Contents → Domain → Contents → Domain
    → Type 0
Does number f result memory old memory' new =
    (e : Estate) (readings : List ℕ) (replies : List Reply) (m : Mem)
    → HasFacts e memory m old
    → Ends number e old new memory' readings replies result (f e (dom_model old readings replies) m)
