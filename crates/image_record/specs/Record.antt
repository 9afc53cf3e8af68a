-- The record of an image, as its text says it: numbers of any size, where the key table names no range.
use Rattle.std.specs.Prelude.{ℕ, ◌<◌, ◌≤◌, ◌^◌, Bool, ℤ, List, [], length, slice_index_or, Option, None}

-- a cache or the translation buffer
pub record RawCache : Type 0 where
  pub sets : ℤ
  pub ways : ℤ
  pub policy : List ℕ

-- in cycles
pub record RawCosts : Type 0 where
  pub base : ℤ
  pub l1 : ℤ
  pub l2 : ℤ
  pub mem : ℤ
  pub wb : ℤ
  pub tlb : ℤ
  pub mispredict : ℤ
  pub trap : ℤ
  pub flush : ℤ

-- what products and divisions cost beside their instruction, in cycles
pub record RawMuldiv : Type 0 where
  pub mul : ℤ
  pub div : ℤ

pub record RawSegment : Type 0 where
  pub page : ℕ
  pub pages : ℕ
  pub rights : List ℕ
  pub hex : List ℕ

-- an interrupt of a line, at a cycle
pub record RawMoment : Type 0 where
  pub at : ℤ
  pub line : ℤ

pub record RawDomain : Type 0 where
  pub name : List ℕ
  pub colours : List ℤ
  pub entry : ℕ
  pub segments : List RawSegment
  pub caps : List (List ℕ)
  pub lines : List ℤ
  pub moments : List RawMoment
  pub calls : Option (List ℤ)  -- those that it may make; none: all

pub record RawEntry : Type 0 where
  pub domain : ℤ
  pub length : ℤ
  pub pad : ℤ
  pub hart : ℤ  -- on which it runs

-- a box of words, one way from a domain to another
pub record RawMailbox : Type 0 where
  pub from : ℤ
  pub to : ℤ

pub record Raw : Type 0 where
  pub version : ℕ  -- of the format, 1 or 2
  pub frames : ℤ
  pub shared : ℤ
  pub line : ℤ
  pub l1i : RawCache
  pub l1d : RawCache
  pub l2 : RawCache
  pub back : Bool  -- whether dirty lines are written back into the second level, else past it
  pub tlb : RawCache
  pub predictor : ℤ
  pub history : ℤ  -- outcomes that the predictor's index takes in
  pub costs : RawCosts
  pub muldiv : Option RawMuldiv
  pub targets : Option ℤ  -- places of the target buffer
  pub domains : List RawDomain
  pub schedule : List RawEntry
  pub mail : List RawMailbox

-- ---- what the key table gives

pub record IsRawSegment (s : RawSegment) : Type 0 where
  pub page : s.page < 2 ^ 20
  pub some : 1 ≤ s.pages
  pub few : s.pages ≤ 64

abbrev pub no_raw_segment : RawSegment
no_raw_segment = record { page = 0; pages = 1; rights = []; hex = [] }

abbrev pub no_raw_domain : RawDomain
no_raw_domain = record {
  name = [];
  colours = [];
  entry = 0;
  segments = [];
  caps = [];
  lines = [];
  moments = [];
  calls = None;
}

abbrev pub raw_domain : List RawDomain → ℕ → RawDomain
raw_domain domains d = slice_index_or domains d no_raw_domain

abbrev pub raw_segment : RawDomain → ℕ → RawSegment
raw_segment o k = slice_index_or o.segments k no_raw_segment

-- numbers and lists of domains are in the ranges of their rows
pub record AreInKeyRanges (domains : List RawDomain) : Type 0 where
  pub entry : (d : ℕ) → (raw_domain domains d).entry < 2 ^ 32
  pub few_segments : (d : ℕ) → length (raw_domain domains d).segments ≤ 16
  pub segments : (d k : ℕ) → IsRawSegment (raw_segment (raw_domain domains d) k)

abbrev pub InKeyRanges : Raw → Type 0
InKeyRanges i = AreInKeyRanges i.domains
