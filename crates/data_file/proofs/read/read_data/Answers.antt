use Rattle.std.proofs.Common.{◌∙◌, ap, subst}
use Rattle.data_file.specs.Data.{data_of, read_text, start, ReadsText}
use Rattle.script_lines.specs.Physical.{physical_lines}
use Rattle.data_file.specs.Sound.{IsSoundSet}
use Rattle.data_file.proofs.ReadLemmas.{reads_ok, reads_refused, sound_ok}
use Rattle.data_file.proofs.SoundLemmas.{sound_read}
use Rattle.data_file.proofs.read.read_data.Goals as goal

-- what `read_from` meant is what the file says
pub returns-clause-read : goal.returns-clause-read
unfolding data_of
returns-clause-read c =
    reads_ok (data_of c.args.style c.args.periodic c.args.dim c.args.bytes.now) c.read_from.result
    (subst (λ s. ReadsText (read_text s (physical_lines c.args.bytes.now)) c.read_from.result) (c.new.ensures ∙ ap (start c.args.style c.args.periodic) c.of.ensures) c.read_from.ensures)

pub returns-clause-refused : goal.returns-clause-refused
unfolding data_of
returns-clause-refused c n why =
    reads_refused (data_of c.args.style c.args.periodic c.args.dim c.args.bytes.now) c.read_from.result n why
    (subst (λ s. ReadsText (read_text s (physical_lines c.args.bytes.now)) c.read_from.result) (c.new.ensures ∙ ap (start c.args.style c.args.periodic) c.of.ensures) c.read_from.ensures)

pub returns-clause-sound : goal.returns-clause-sound
unfolding data_of
returns-clause-sound c =
    sound_ok (data_of c.args.style c.args.periodic c.args.dim c.args.bytes.now) c.read_from.result (IsSoundSet c.args.style c.args.dim)
    (subst (λ s. ReadsText (read_text s (physical_lines c.args.bytes.now)) c.read_from.result) (c.new.ensures ∙ ap (start c.args.style c.args.periodic) c.of.ensures) c.read_from.ensures)
    (sound_read c.args.style c.args.periodic c.args.dim c.args.bytes.now)
