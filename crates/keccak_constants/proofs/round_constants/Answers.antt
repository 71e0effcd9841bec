-- The table holds the constants that the shift register gives, by one test that is computed over its 24 entries.
use Rattle.words.specs.Word.{xor}
use Rattle.words.specs.Iterate.{iterate}
use Rattle.words.specs.Tab.{tab}
use Rattle.words.specs.TableLaws.{table_tab}
use Rattle.keccak_constants.specs.RoundConstants.{clocked, register, rc, constant}
use Rattle.keccak_constants.proofs.round_constants.Goals as goal

pub returns : goal.returns
unfolding constant rc register clocked xor iterate tab
returns c = table_tab constant _ tt
