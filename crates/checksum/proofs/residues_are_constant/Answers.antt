use Rattle.checksum.proofs.Residue.{jis_residue, type_b_residue}
use Rattle.checksum.proofs.residues_are_constant.Goals as goal

pub returns : goal.returns
returns c = (jis_residue, type_b_residue)
