use Rattle.std.proofs.Common.{◌≡◌, ◌*◌, arith}
use Rattle.image_check.specs.Models.{own_model}
use Rattle.domain_open.proofs.SlotLaws.{put_noted}
use Rattle.world_view.specs.Opening.{rights_in}
use Rattle.world_view.specs.Kernel.{rights_or_none}
use Rattle.domain_open.proofs.giving.give_page.Goals as goal

pub returns : goal.returns
returns c =
    let o = own_model c.args.own.now in
    let n = c.args.at.page in
    let rights : c.page_rights-rights.result ≡ rights_or_none (rights_in o.segments n) =
    rw c.as_slice.ensures.value at c.page_rights-rights.ensures.value in
    record {
      becomes =
          put_noted o c.args.caps.now c.put.new.self c.note.new.self c.args.at.slot c.args.frame
          c.page_rights-rights.result n (4096 * n)
          c.requires.places c.requires.slot rights (omega arith) c.put.ensures.becomes c.note.ensures.becomes;
    }
