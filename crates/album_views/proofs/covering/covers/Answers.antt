use Rattle.std.proofs.Common.{◌≡◌, true}
use Rattle.std.specs.List.{list_all}
use Rattle.album_reader.specs.Answers.{ReadVersion}
use Rattle.album_views.specs.Covering.{has_subject, has_groups_of_group}
use Rattle.album_views.specs.ReadSets.{subjects_of}
use Rattle.album_views.specs.Seen.{seen}
use Rattle.album_views.proofs.Covered.{covered_closed}
use Rattle.album_views.proofs.covering.covers.Goals as goal
use Rattle.album_views.proofs.covering.covers.Goals.{then-has_subjects, else-has_subjects}

-- each subject has what it names, and each group its groups
pub returns : goal.returns
returns c = λ h. elim c.if-has_subjects.branch [
  | then-has_subjects w ↦ (let value = c.deref.ensures.value in
      let items = c.in_ok-subjects.ensures in
      let test = c.has_subjects.ensures in
      let there = w.if-has_subjects in
      let groups = w.has_groups_of_groups.ensures in
      let is = w.result-is in
      let first : list_all (has_subject c.args.snapshot.now c.args.looker.now c.args.ask.now)
      (subjects_of (seen c.args.snapshot.now) c.args.ask.now) ≡ true = cc in
      let second : list_all (λ (row : ReadVersion). has_groups_of_group c.args.snapshot.now row.value) c.args.snapshot.now ≡ true = cc in
      covered_closed c.args.snapshot.now c.args.looker.now c.args.ask.now first second)
  | else-has_subjects w ↦ (let is = w.result-is in absurd (cc))
]
