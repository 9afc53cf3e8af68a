use Rattle.std.proofs.Common.{◌≡◌, ◌∙◌, refl, ap}
use Rattle.std.specs.Prelude.{slice_index}
use Rattle.call_table.specs.Calls.{call_of, put_byte, alloc, install, map_page, unmap, copy, delete, revoke}
use Rattle.kernel_call.specs.Models.{dom_model}
use Rattle.kernel_call.specs.Facts.{nothing, with_work}
use Rattle.kernel_clone.specs.Footprints.{call_number}
use Rattle.kernel_call.proofs.Keeps.{if_err}
use Rattle.kernel_call.proofs.TiesCalls.{performed, last_on_memory}
use Rattle.kernel_call.proofs.calls.perform.Goals as goal

pub returns-in-Put : goal.returns-in-Put
unfolding call_of
returns-in-Put c = record {
  does = λ e readings replies m h.
      performed (call_number c.args.call) 1 e c.args.domain.now c.put_byte.new.domain c.args.memory.now
      readings replies m (with_work c.put_byte.result c.args.work.now)
      (slice_index c.args.args 0) (slice_index c.args.args 1) (slice_index c.args.args 2)
      (put_byte (dom_model c.args.domain.now readings replies) (slice_index c.args.args 0) m)
      (ap call_number c.in-Put.is) refl (c.put_byte.ensures.does c.args.work.now
      (c.requires.fresh ∙ ap nothing (ap call_number c.in-Put.is)) e readings replies m h);
  rest = c.put_byte.ensures.rest;
  unchanged = c.put_byte.ensures.unchanged;
  memory = if_err c.put_byte.result refl;
  unwritten = if_err c.put_byte.result refl;
  frames = refl;
}

pub alloc-requires-clause-fresh : goal.alloc-requires-clause-fresh
alloc-requires-clause-fresh c = c.requires.fresh ∙ ap nothing (ap call_number c.in-Alloc.is)

pub returns-in-Alloc : goal.returns-in-Alloc
unfolding call_of
returns-in-Alloc c = record {
  does = λ e readings replies m h.
      performed (call_number c.args.call) 2 e c.args.domain.now c.alloc.new.domain c.alloc.new.memory readings
      replies m (with_work c.alloc.result c.alloc.new.work)
      (slice_index c.args.args 0) (slice_index c.args.args 1) (slice_index c.args.args 2)
      (alloc e (dom_model c.args.domain.now readings replies) (slice_index c.args.args 0) (slice_index c.args.args 1) m)
      (ap call_number c.in-Alloc.is) refl (c.alloc.ensures.does e readings replies m h);
  rest = c.alloc.ensures.rest;
  unchanged = c.alloc.ensures.unchanged;
  memory = c.alloc.ensures.memory;
  unwritten = c.alloc.ensures.unwritten;
  frames = c.alloc.ensures.frames;
}

pub install-requires-clause-fresh : goal.install-requires-clause-fresh
install-requires-clause-fresh c = c.requires.fresh ∙ ap nothing (ap call_number c.in-Table.is)

pub returns-in-Table : goal.returns-in-Table
unfolding call_of
returns-in-Table c = record {
  does = λ e readings replies m h.
      performed (call_number c.args.call) 3 e c.args.domain.now c.install.new.domain c.install.new.memory
      readings replies m (with_work c.install.result c.install.new.work)
      (slice_index c.args.args 0) (slice_index c.args.args 1) (slice_index c.args.args 2)
      (install e (dom_model c.args.domain.now readings replies) (slice_index c.args.args 0) (slice_index c.args.args 1) m)
      (ap call_number c.in-Table.is) refl (c.install.ensures.does e readings replies m h);
  rest = c.install.ensures.rest;
  unchanged = c.install.ensures.unchanged;
  memory = c.install.ensures.memory;
  unwritten = c.install.ensures.unwritten;
  frames = c.install.ensures.frames;
}

pub map_page-requires-clause-fresh : goal.map_page-requires-clause-fresh
map_page-requires-clause-fresh c = c.requires.fresh ∙ ap nothing (ap call_number c.in-Map.is)

pub returns-in-Map : goal.returns-in-Map
unfolding call_of
returns-in-Map c = record {
  does = λ e readings replies m h.
      performed (call_number c.args.call) 4 e c.args.domain.now c.map_page.new.domain c.map_page.new.memory
      readings replies m (with_work c.map_page.result c.map_page.new.work)
      (slice_index c.args.args 0) (slice_index c.args.args 1) (slice_index c.args.args 2)
      (map_page e (dom_model c.args.domain.now readings replies) (slice_index c.args.args 0)
      (slice_index c.args.args 1) (slice_index c.args.args 2) m)
      (ap call_number c.in-Map.is) refl (c.map_page.ensures.does e readings replies m h);
  rest = c.map_page.ensures.rest;
  unchanged = c.map_page.ensures.unchanged;
  memory = c.map_page.ensures.memory;
  unwritten = c.map_page.ensures.unwritten;
  frames = c.map_page.ensures.frames;
}

pub unmap-requires-clause-fresh : goal.unmap-requires-clause-fresh
unmap-requires-clause-fresh c = c.requires.fresh ∙ ap nothing (ap call_number c.in-Unmap.is)

pub returns-in-Unmap : goal.returns-in-Unmap
unfolding call_of
returns-in-Unmap c = record {
  does = λ e readings replies m h.
      performed (call_number c.args.call) 5 e c.args.domain.now c.unmap.new.domain c.unmap.new.memory readings
      replies m (with_work c.unmap.result c.unmap.new.work)
      (slice_index c.args.args 0) (slice_index c.args.args 1) (slice_index c.args.args 2)
      (unmap e (dom_model c.args.domain.now readings replies) (slice_index c.args.args 0) m)
      (ap call_number c.in-Unmap.is) refl (c.unmap.ensures.does e readings replies m h);
  rest = c.unmap.ensures.rest;
  unchanged = c.unmap.ensures.unchanged;
  memory = c.unmap.ensures.memory;
  unwritten = c.unmap.ensures.unwritten;
  frames = c.unmap.ensures.frames;
}

pub returns-in-Copy : goal.returns-in-Copy
unfolding call_of
returns-in-Copy c = record {
  does = λ e readings replies m h.
      performed (call_number c.args.call) 6 e c.args.domain.now c.copy.new.domain c.args.memory.now readings
      replies m (with_work c.copy.result c.args.work.now)
      (slice_index c.args.args 0) (slice_index c.args.args 1) (slice_index c.args.args 2)
      (copy (dom_model c.args.domain.now readings replies) (slice_index c.args.args 0)
      (slice_index c.args.args 1) (slice_index c.args.args 2) m)
      (ap call_number c.in-Copy.is) refl (c.copy.ensures.does c.args.work.now
      (c.requires.fresh ∙ ap nothing (ap call_number c.in-Copy.is)) e readings replies m h);
  rest = c.copy.ensures.rest;
  unchanged = c.copy.ensures.unchanged;
  memory = if_err c.copy.result refl;
  unwritten = if_err c.copy.result refl;
  frames = refl;
}

pub delete-requires-clause-fresh : goal.delete-requires-clause-fresh
delete-requires-clause-fresh c = c.requires.fresh ∙ ap nothing (ap call_number c.in-Delete.is)

pub returns-in-Delete : goal.returns-in-Delete
unfolding call_of
returns-in-Delete c = record {
  does = λ e readings replies m h.
      performed (call_number c.args.call) 7 e c.args.domain.now c.delete.new.domain c.delete.new.memory
      readings replies m (with_work c.delete.result c.delete.new.work)
      (slice_index c.args.args 0) (slice_index c.args.args 1) (slice_index c.args.args 2)
      (delete e (dom_model c.args.domain.now readings replies) (slice_index c.args.args 0) m)
      (ap call_number c.in-Delete.is) refl (c.delete.ensures.does e readings replies m h);
  rest = c.delete.ensures.rest;
  unchanged = c.delete.ensures.unchanged;
  memory = c.delete.ensures.memory;
  unwritten = c.delete.ensures.unwritten;
  frames = c.delete.ensures.frames;
}

pub returns-in_default : goal.returns-in_default
unfolding call_of
returns-in_default c = record {
  does = λ e readings replies m h.
      let is : call_number c.args.call ≡ 8 = last_on_memory c.args.call c.requires.on_memory
      c.in_default.not-Put c.in_default.not-Alloc c.in_default.not-Table c.in_default.not-Map c.in_default.not-Unmap
      c.in_default.not-Copy c.in_default.not-Delete in
      performed (call_number c.args.call) 8 e c.args.domain.now c.revoke.new.domain c.revoke.new.memory
      readings replies m (with_work c.revoke.result c.revoke.new.work)
      (slice_index c.args.args 0) (slice_index c.args.args 1) (slice_index c.args.args 2)
      (revoke e (dom_model c.args.domain.now readings replies) (slice_index c.args.args 0) m)
      is refl (c.revoke.ensures.does e readings replies m h);
  rest = c.revoke.ensures.rest;
  unchanged = c.revoke.ensures.unchanged;
  memory = c.revoke.ensures.memory;
  unwritten = c.revoke.ensures.unwritten;
  frames = c.revoke.ensures.frames;
}
