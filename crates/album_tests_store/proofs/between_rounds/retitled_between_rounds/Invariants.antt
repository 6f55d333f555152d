use Rattle.album_tests_store.proofs.between_rounds.retitled_between_rounds.Given as goal

-- the desk, the policy and the four ledgers that were opened here
abbrev pub ghosts-both_over-J-ServiceNames : goal.ghosts-both_over-J-ServiceNames
ghosts-both_over-J-ServiceNames g a = record {
  policy = a.opened.policy;
}

abbrev pub ghosts-both_over-J-DeskNames : goal.ghosts-both_over-J-DeskNames
ghosts-both_over-J-DeskNames g a = record {
  terms = a.opened.desk.terms;
}

abbrev pub ghosts-both_over-J-BoardNames : goal.ghosts-both_over-J-BoardNames
ghosts-both_over-J-BoardNames g a = record {
  list = a.opened.list;
  table = a.opened.desk.table;
}

abbrev pub ghosts-both_over-J-Books : goal.ghosts-both_over-J-Books
ghosts-both_over-J-Books g a = record {
  audit_ok = a.opened.books.audit_ok;
  audit_failed = a.opened.books.audit_failed;
  alarm_ok = a.opened.books.alarm_ok;
  alarm_failed = a.opened.books.alarm_failed;
}
