use Rattle.std.proofs.Common.{◌≡◌, take}
use Rattle.std.specs.Io.KnownBytes.{Appends}
use Rattle.album_port.specs.Audits.{who_in, asked_in, record_lines}
use Rattle.album_port.proofs.log.Log.append_all.Given as goal

abbrev pub invariant-loop-of : goal.invariant-loop-of
invariant-loop-of g l = record {
  written : Appends (g.W.Write.contents l.initial.self.to) (g.W.Write.contents l.self.to)
      (record_lines l.moment (who_in l.initial.self.named) (asked_in l.initial.self.asked) (take l.of-index l.records));
  named : l.self.named ≡ l.initial.self.named;
  asked : l.self.asked ≡ l.initial.self.asked;
}
