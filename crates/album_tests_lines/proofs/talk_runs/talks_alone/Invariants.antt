use Rattle.album_tests_lines.proofs.talk_runs.talks_alone.Given as goal

-- the desk, the policy and the four ledgers that were opened here
abbrev pub ghosts-talks_over-J-ServiceNames : goal.ghosts-talks_over-J-ServiceNames
ghosts-talks_over-J-ServiceNames g a = record {
  policy = a.opened.policy;
}

abbrev pub ghosts-talks_over-J-DeskNames : goal.ghosts-talks_over-J-DeskNames
ghosts-talks_over-J-DeskNames g a = record {
  terms = a.opened.desk.terms;
}

abbrev pub ghosts-talks_over-J-BoardNames : goal.ghosts-talks_over-J-BoardNames
ghosts-talks_over-J-BoardNames g a = record {
  list = a.opened.list;
  table = a.opened.desk.table;
}

abbrev pub ghosts-talks_over-J-Books : goal.ghosts-talks_over-J-Books
ghosts-talks_over-J-Books g a = record {
  audit_ok = a.opened.books.audit_ok;
  audit_failed = a.opened.books.audit_failed;
  alarm_ok = a.opened.books.alarm_ok;
  alarm_failed = a.opened.books.alarm_failed;
}
