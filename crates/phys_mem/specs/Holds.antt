-- How a memory of the code stands for one of the definitions.
use Rattle.std.specs.Prelude.{◌≡◌, ℕ, ◌*◌, ◌<◌, length}
use Rattle.phys_mem.specs.Contents.{Contents, word_of}
use Rattle.phys_mem.specs.Mem.{Mem, word}

-- it has 1,024 words a frame, and in all its frames they are the same
pub record Holds (memory : Contents) (mem : Mem) : Type 0 where
  pub size : length memory.words ≡ 1024 * memory.frames
  pub same : (frame place : ℕ) → frame < memory.frames → place < 1024
      → word_of memory frame place ≡ word mem frame place
