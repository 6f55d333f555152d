use Rattle.album_tests_store.proofs.sessions.refused_once_closed.Given as goal

-- the desk, the policy and the four ledgers that were opened here
abbrev pub ghosts-closed_on-J-ServiceNames : goal.ghosts-closed_on-J-ServiceNames
ghosts-closed_on-J-ServiceNames g a = record {
  policy = a.opened.policy;
}

abbrev pub ghosts-closed_on-J-DeskNames : goal.ghosts-closed_on-J-DeskNames
ghosts-closed_on-J-DeskNames g a = record {
  terms = a.opened.desk.terms;
}

abbrev pub ghosts-closed_on-J-BoardNames : goal.ghosts-closed_on-J-BoardNames
ghosts-closed_on-J-BoardNames g a = record {
  list = a.opened.list;
  table = a.opened.desk.table;
}

abbrev pub ghosts-closed_on-J-Books : goal.ghosts-closed_on-J-Books
ghosts-closed_on-J-Books g a = record {
  audit_ok = a.opened.books.audit_ok;
  audit_failed = a.opened.books.audit_failed;
  alarm_ok = a.opened.books.alarm_ok;
  alarm_failed = a.opened.books.alarm_failed;
}
