-- What holds of an open log holds of its text, and of what its disk may leave.
use Rattle.std.proofs.Common.{List, ℕ, IsTrue, subst, sym, ap, ◌∙◌}
use Rattle.album_log.specs.Logs.{LogView}
use Rattle.album_log.specs.Texts.{IsWholeText}
use Rattle.album_log.proofs.LogLemmas.{whole_text_sound}
use Rattle.album_log.proofs.log.Log.is_at_rest.Goals as goal

pub returns-clause-only : goal.returns-clause-only
returns-clause-only g c opened left leaves =
    let view = c.self.view_is in
    let is_open = subst IsTrue (sym (ap (λ (l : LogView _). l.is_open) view)) opened in
    let outcome = subst (λ d. g.D.Disk.may_leave d left) (sym (ap (λ (l : LogView _). l.disk) view)) leaves in
    whole_text_sound _ _ _ _ _ _ (c.self.invariant.2 is_open) left outcome ∙ ap (λ (l : LogView _). l.text) view

pub returns-clause-whole : goal.returns-clause-whole
returns-clause-whole g c opened =
    let view = c.self.view_is in
    let is_open = subst IsTrue (sym (ap (λ (l : LogView _). l.is_open) view)) opened in
    subst (λ (t : List ℕ). IsWholeText t) (ap (λ (l : LogView _). l.text) view) (c.self.invariant.2 is_open).durable.stands.whole
