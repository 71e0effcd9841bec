-- The first part's bytes hold u at depth du, polynomial by polynomial; each is decoded and then transformed.
use Rattle.masked_decryption.proofs.Decrypted.{transformed_first}
use Rattle.masked_decryption.proofs.transformed_first.Goals as goal

pub returns : goal.returns
returns c =
    let a = c.args in
    transformed_first a.p a.c.now c.decoded_all.ensures c.ntt_all.ensures
