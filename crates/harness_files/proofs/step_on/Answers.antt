-- The step is the definition's, so that it finds the same read or refuses for the same reason; and a read that it finds
-- lies in the file, so that each of its clips has 16 bits.
use Rattle.octets.proofs.AllBytes.{bytes_of_lem}
use Rattle.harness_files.proofs.Clips.{found-small}
use Rattle.harness_files.proofs.step_on.Goals as goal

pub read_found-requires : goal.read_found-requires
read_found-requires c =
    let file = c.args.file.now in
    found-small file _ _ _ (bytes_of_lem file (λ i. (c.type_inv.file i).fits)) c.in-Ok.ensures
