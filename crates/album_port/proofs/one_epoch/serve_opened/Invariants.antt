use Rattle.album_port.proofs.one_epoch.serve_opened.Given as goal

-- the desk, the policy and the ledgers that were opened here
abbrev pub ghosts-serve_all-J-ServiceNames : goal.ghosts-serve_all-J-ServiceNames
ghosts-serve_all-J-ServiceNames g a = record {
  policy = a.opened.policy;
}

abbrev pub ghosts-serve_all-J-DeskNames : goal.ghosts-serve_all-J-DeskNames
ghosts-serve_all-J-DeskNames g a = record {
  terms = a.opened.desk.terms;
}

abbrev pub ghosts-serve_all-J-BoardNames : goal.ghosts-serve_all-J-BoardNames
ghosts-serve_all-J-BoardNames g a = record {
  list = a.opened.list;
  table = a.opened.desk.table;
}

abbrev pub ghosts-serve_all-J-Books : goal.ghosts-serve_all-J-Books
ghosts-serve_all-J-Books g a = record {
  audit_ok = a.opened.books.audit_ok;
  audit_failed = a.opened.books.audit_failed;
  alarm_ok = a.opened.books.alarm_ok;
  alarm_failed = a.opened.books.alarm_failed;
}
