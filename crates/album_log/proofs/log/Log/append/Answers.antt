-- The log is sound again, with the group behind its text.
use Rattle.std.proofs.Common.{◌++◌, ap, ◌∙◌}
use Rattle.album_log.specs.Logs.{LogView}
use Rattle.album_log.proofs.LogLemmas.{appended_text, sound_appended, whole_text_sound, log_of_sound, length_of_text}
use Rattle.album_log.proofs.log.Log.append.Goals as goal

pub invariant_of-self-2 : goal.invariant_of-self-2
invariant_of-self-2 g c =
    let was = c.self.invariant.2 c.if-not-self.false in
    let e = c.in_ok-self-inside.ensures in
    let after = e.text _ (length_of_text _ _ _ was.reach was.durable.stands) was.durable in
    (c.self.invariant.0, c.self.invariant.1, λ _. sound_appended _ _ _ _ _ _ _ _ _ _ _ _ was after e.room e.clean e.size e.usable)

pub returns-clause-text : goal.returns-clause-text
returns-clause-text g c =
    let was = c.self.invariant.2 c.if-not-self.false in
    let after = c.in_ok-self-inside.ensures.text _ (length_of_text _ _ _ was.reach was.durable.stands) was.durable in
    let grown = appended_text _ _ _ _ _ _ _ was.reach was.durable.stands after in
    grown ∙ ap (λ (l : LogView _). l.text ++ c.args.group.now) c.self.view_is

pub returns-clause-log : goal.returns-clause-log
returns-clause-log g c =
    let was = c.self.invariant.2 c.if-not-self.false in
    let e = c.in_ok-self-inside.ensures in
    let after = e.text _ (length_of_text _ _ _ was.reach was.durable.stands) was.durable in
    log_of_sound _ _ _ _ _ _ (sound_appended _ _ _ _ _ _ _ _ _ _ _ _ was after e.room e.clean e.size e.usable)

pub returns-clause-durable : goal.returns-clause-durable
returns-clause-durable g c =
    let was = c.self.invariant.2 c.if-not-self.false in
    let e = c.in_ok-self-inside.ensures in
    let after = e.text _ (length_of_text _ _ _ was.reach was.durable.stands) was.durable in
    whole_text_sound _ _ _ _ _ _ (sound_appended _ _ _ _ _ _ _ _ _ _ _ _ was after e.room e.clean e.size e.usable)
