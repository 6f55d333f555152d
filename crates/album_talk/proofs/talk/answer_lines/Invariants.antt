use Rattle.std.proofs.Common.{map, take}
use Rattle.album_sessions.specs.Asks.{IsOn}
use Rattle.album_lines.specs.Lines.{said}
use Rattle.album_talk.specs.Talk.{Talks, IsRecordedTalk, rules_of}
use Rattle.album_judge.specs.Writes.{Writes}
use Rattle.album_talk.proofs.talk.answer_lines.Given as goal

abbrev pub invariant-loop-line : goal.invariant-loop-line
invariant-loop-line g l = record {
  written : Writes (Talks g.J.DeskNames.terms.limit g.J.ServiceNames.policy (rules_of l.admins l.epoch)
      (record { who = l.initial.who; session = l.initial.session }) (map said (take l.line-index l.lines))
      (record { who = l.who; session = l.session }))
      (g.W.Write.contents l.initial.writer) (g.W.Write.contents l.writer);
  recorded : Writes (IsRecordedTalk g.J.DeskNames.terms.limit g.J.ServiceNames.policy (rules_of l.admins l.epoch) (g.A.Journal.recorded l.journal)
      (record { who = l.initial.who; session = l.initial.session }) (record { who = l.who; session = l.session }))
      (g.W.Write.contents l.initial.writer) (g.W.Write.contents l.writer);
  on : IsOn l.initial.session l.session;
}
