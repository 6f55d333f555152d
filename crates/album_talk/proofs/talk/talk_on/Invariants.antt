use Rattle.std.proofs.Common.{◌≡◌}
use Rattle.album_sessions.specs.Asks.{IsOn}
use Rattle.album_talk.specs.Talk.{IsRecordedTalk, rules_of}
use Rattle.album_judge.specs.Writes.{Writes}
use Rattle.album_talk.proofs.TalkTurns.{HasTalked}
use Rattle.album_talk.proofs.talk.talk_on.Given as goal

abbrev pub invariant-loop-turn : goal.invariant-loop-turn
invariant-loop-turn g l = record {
  talked : HasTalked g.J.DeskNames.terms.limit g.J.ServiceNames.policy (rules_of l.admins l.epoch)
      (record { who = l.initial.who; session = l.initial.session })
      (record { who = l.who; session = l.session }) l._turn l.lines
      (g.R.Read.remaining l.initial.reader) (g.R.Read.remaining l.reader)
      (g.W.Write.contents l.initial.writer) (g.W.Write.contents l.writer);
  recorded : Writes (IsRecordedTalk g.J.DeskNames.terms.limit g.J.ServiceNames.policy (rules_of l.admins l.epoch) (g.A.Journal.recorded l.journal)
      (record { who = l.initial.who; session = l.initial.session }) (record { who = l.who; session = l.session }))
      (g.W.Write.contents l.initial.writer) (g.W.Write.contents l.writer);
  on : IsOn l.initial.session l.session;
  unread : l.turns ≡ 0 → g.R.Read.remaining l.reader ≡ g.R.Read.remaining l.initial.reader;
}
