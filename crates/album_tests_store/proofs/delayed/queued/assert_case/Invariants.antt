use Rattle.album_tests_store.proofs.delayed.queued.assert_case.Given as goal

-- the desk, the policy and the four ledgers that were opened here
abbrev pub ghosts-assert_by-J-ServiceNames : goal.ghosts-assert_by-J-ServiceNames
ghosts-assert_by-J-ServiceNames g a = record {
  policy = a.opened.policy;
}

abbrev pub ghosts-assert_by-J-DeskNames : goal.ghosts-assert_by-J-DeskNames
ghosts-assert_by-J-DeskNames g a = record {
  terms = a.opened.desk.terms;
}

abbrev pub ghosts-assert_by-J-BoardNames : goal.ghosts-assert_by-J-BoardNames
ghosts-assert_by-J-BoardNames g a = record {
  list = a.opened.list;
  table = a.opened.desk.table;
}

abbrev pub ghosts-assert_by-J-Books : goal.ghosts-assert_by-J-Books
ghosts-assert_by-J-Books g a = record {
  audit_ok = a.opened.books.audit_ok;
  audit_failed = a.opened.books.audit_failed;
  alarm_ok = a.opened.books.alarm_ok;
  alarm_failed = a.opened.books.alarm_failed;
}
