use Rattle.album_threads.proofs.visit.visited_with.Given as goal

-- the desk, the policy and the four ledgers that were opened here
abbrev pub ghosts-visited_as-J-ServiceNames : goal.ghosts-visited_as-J-ServiceNames
ghosts-visited_as-J-ServiceNames g a = record {
  policy = a.opened.policy;
}

abbrev pub ghosts-visited_as-J-DeskNames : goal.ghosts-visited_as-J-DeskNames
ghosts-visited_as-J-DeskNames g a = record {
  terms = a.opened.desk.terms;
}

abbrev pub ghosts-visited_as-J-BoardNames : goal.ghosts-visited_as-J-BoardNames
ghosts-visited_as-J-BoardNames g a = record {
  list = a.opened.list;
  table = a.opened.desk.table;
}

abbrev pub ghosts-visited_as-J-Books : goal.ghosts-visited_as-J-Books
ghosts-visited_as-J-Books g a = record {
  audit_ok = a.opened.books.audit_ok;
  audit_failed = a.opened.books.audit_failed;
  alarm_ok = a.opened.books.alarm_ok;
  alarm_failed = a.opened.books.alarm_failed;
}
