-- What is one domain's own in an image.
use Rattle.std.specs.Prelude.{ℕ, ◌+◌, nat_lt, if◌then◌else◌, length, Bool, List, [], ◌∷◌, map, slice_index_or}
use Rattle.std.specs.List.{All}
use Rattle.irq_partition.specs.declared.Moment.{Moment}
use Rattle.frame_colours.specs.Colours.{has}
use Rattle.image_record.specs.Record.{Raw, RawDomain}
use Rattle.image_record.specs.Numbers.{natural_of}
use Rattle.domain_check.specs.declared.capabilities.InitialCap.{InitialCap}
use Rattle.domain_check.specs.declared.capabilities.InitialCap.TheVariants.{None as NoCap}
pub use Rattle.domain_check.specs.Segments.{Segment}
unfoldable pub use Rattle.domain_check.specs.Segments.{segment_of}
use Rattle.domain_check.specs.Capabilities.{cap_of, IsSmallCap}
use Rattle.schedule_check.specs.Interrupts.{moment_of}
use Rattle.domain_check.specs.Calls.{calls_in}
use Rattle.kernel_clone.specs.Permissions.{every_call, without_mail}

pub record Own : Type 0 where
  pub number : ℕ  -- its place in the image
  pub name : List ℕ
  pub colours : List ℕ  -- of its frames
  pub entry : ℕ  -- the address at which it begins
  pub segments : List Segment
  pub caps : List InitialCap  -- what each capability slot names as it begins
  pub lines : List ℕ  -- its interrupt lines
  pub moments : List Moment  -- when they interrupt it
  pub calls : ℕ  -- those that it lists, a bit each: its pads are bound by them
  pub makes : ℕ  -- those that it may make in this image, a bit each

-- the numbers of what its slots name fit those of the code
pub record IsSmallOwn (o : RawDomain) : Type 0 where
  pub caps : All IsSmallCap (map cap_of o.caps)

-- those of the calls that it lists which a domain may make: in an image without mailboxes none on them
abbrev pub makes_of : Bool → ℕ → ℕ
makes_of mail calls = if mail then calls else without_mail calls

unfoldable pub own_from : ℕ → Bool → RawDomain → Own
own_from n mail o = record {
  number = n;
  name = o.name;
  colours = map natural_of o.colours;
  entry = o.entry;
  segments = map segment_of o.segments;
  caps = map cap_of o.caps;
  lines = map natural_of o.lines;
  moments = map moment_of o.moments;
  calls = calls_in o.calls;
  makes = makes_of mail (calls_in o.calls);
}

-- in their order, of which the first has this number
abbrev pub owns_from : ℕ → Bool → List RawDomain → List Own
owns_from n mail [] = []
owns_from n mail (o ∷ os) = own_from n mail o ∷ owns_from (n + 1) mail os

-- whether it declares a mailbox
abbrev pub has_mail : Raw → Bool
has_mail i = nat_lt 0 (length i.mail)

unfoldable pub owns_of : Raw → List Own
owns_of i = owns_from 0 (has_mail i) i.domains

abbrev pub no_own : Own
no_own = record {
  number = 0;
  name = [];
  colours = [];
  entry = 0;
  segments = [];
  caps = [];
  lines = [];
  moments = [];
  calls = every_call;
  makes = without_mail every_call;
}

abbrev pub own_at : List Own → ℕ → Own
own_at owns d = slice_index_or owns d no_own

abbrev pub no_segment : Segment
no_segment = record { page = 0; pages = 1; rights = 1; bytes = [] }

abbrev pub segment_at : Own → ℕ → Segment
segment_at o k = slice_index_or o.segments k no_segment

-- the slot's, or nothing past the last
abbrev pub cap_at : Own → ℕ → InitialCap
cap_at o k = slice_index_or o.caps k NoCap

-- whether a line is one of the domain's
abbrev pub has_line : Own → ℕ → Bool
has_line o n = has o.lines n
