use Rattle.rs_cert.proofs.SoundFacts.{sound}
use Rattle.rs_cert.proofs.laws.good_certificates_are_sound.Goals as goal

pub returns : goal.returns
returns c = λ cert lefts rights good more_left more_right. sound cert good lefts rights more_left more_right
