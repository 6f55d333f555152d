-- Short runs of a world, worked out by hand and computed.
use Rattle.std.proofs.Common.{◌≡◌, ℕ, Bool, true, false, List, [], ◌∷◌, ◌++◌, map, Option, Some, None, option_map, Result, Err, refl}
use Rattle.std.specs.List.{range_with_len}
use Rattle.album_stamps.specs.declared.refusals.Refusal.TheVariants as refusal
use Rattle.album_stamps.specs.declared.refusals.Refusal.{Refusal}
use Rattle.album_access.specs.declared.types.AceType.TheVariants as sort
use Rattle.album_lists.specs.declared.lists.Ace.{Ace}
use Rattle.album_lists.specs.declared.whos.Who.TheVariants as who
use Rattle.album_eval.specs.Matching.{is_match}
use Rattle.album_eval.specs.Policies.{is_given}
use Rattle.album_eval.specs.Verdict.{is_asked, mentions, first_mention, verdict}
use Rattle.album_eval.specs.Audit.{is_noted, audited}
use Rattle.album_eval.specs.declared.facts.Principal.{Principal}
use Rattle.album_eval.specs.declared.facts.Principal.TheVariants as principal
use Rattle.album_items.specs.ItemIds.{picture, album, list}
use Rattle.album_items.specs.declared.openings.Opening.{Opening}
use Rattle.album_items.specs.declared.values.Head.{Head}
use Rattle.album_items.specs.declared.values.Value.TheVariants as value
use Rattle.album_reader.specs.Answers.{ReadVersion}
use Rattle.album_views.specs.Checks.{flaw_of}
use Rattle.album_views.specs.ReadSets.{first_names, names_of}
use Rattle.album_views.specs.Seen.{seen}
use Rattle.album_views.specs.Views.{is_closed}
use Rattle.album_views.specs.declared.asks.Ask.TheVariants as ask
use Rattle.album_listing.specs.GroupsFound.{groups_found}
use Rattle.album_listing.specs.Masks.{WRITE_ATTRIBUTES}
use Rattle.album_eval.specs.declared.verdicts.Verdict.TheVariants.{DeniedAtEnd}
use Rattle.album_permits.specs.declared.serving.Served.TheVariants as served
use Rattle.album_client.specs.declared.clients.Phase.TheVariants.{Idle}
use Rattle.album_client.specs.Terms.{terms_of}
use Rattle.album_client.specs.PendingAsks.{PendingAsk}
use Rattle.album_client.specs.Clients.{Client, newcomer}
use Rattle.album_client.specs.Steps.{read_transition}
use Rattle.album_permits.specs.declared.events.Event.{Event}
use Rattle.album_permits.specs.declared.events.Event.TheVariants as event
use Rattle.album_permits.specs.declared.answers.Answer.{Answer}
use Rattle.album_permits.specs.declared.answers.Answer.TheVariants as answer
use Rattle.album_reader.specs.Rounds.Step.{Done, Gone}
use Rattle.album_views.specs.declared.viewing.Why.TheVariants.{Rounds}
use Rattle.album_world.specs.Changes.{Change, change_of}
use Rattle.album_world.specs.Past.{Read, PastAnswer}
use Rattle.album_world.specs.State.{Now}
use Rattle.album_world.specs.Runs.{run_of}

-- amy and bo, by names of one letter
abbrev amy : Principal
amy = principal.User (97 ∷ [])

abbrev bo : Principal
bo = principal.User (98 ∷ [])

-- amy's, with the list of this number
abbrev head_with : ℕ → Head
head_with number = record { owner = 97 ∷ []; group = 0; list = number }

-- amy may do all, and everyone may read
abbrev open_list : List Ace
open_list =
    record { sort = sort.Allowed; who = who.Owner; mask = record { 0 = 2032127 }; flags = record { 0 = 0 } }
    ∷ record { sort = sort.Allowed; who = who.Everyone; mask = record { 0 = 1 }; flags = record { 0 = 0 } }
    ∷ []

-- a picture in an album, each with the open list, over 3 partitions, which are checked or not
abbrev opening_with : Bool → ℕ → Opening
opening_with checked limit =
    record {
      parts = 3;
      limit = limit;
      policy = 1;
      checked = checked;
      root = None;
      first = 0;
      items = (picture 0, value.Picture (record { title = 83 ∷ []; content = []; head = head_with 0; home = 0 }))
          ∷ (
            album 0,
            value.Album
                (record { title = 84 ∷ []; head = head_with 1; home = None; children = picture 0 ∷ [] }),
          )
          ∷ (list 0, value.List open_list)
          ∷ (list 1, value.List open_list)
          ∷ [];
      stamps = [];
    }

abbrev opening : ℕ → Opening
opening limit = opening_with false limit

abbrev delivers : ℕ → ℕ → List Event
delivers first count = map event.Deliver (range_with_len first count)

abbrev answers : ℕ → List Event → List Answer
answers limit events = map (λ (given : PastAnswer). given.answer) (run_of (opening limit) events).past.answers

abbrev retitle : Event
retitle = event.Ask 1 amy (ask.Retitle (picture 0) (66 ∷ []))

-- amy gives the picture another title, and bo reads it
title_read : answers 1000 (retitle ∷ delivers 1 20 ++ event.Ask 2 bo (ask.Read (picture 0)) ∷ delivers 21 16)
    ≡ answer.Committed 65537 ∷ answer.Served (served.Picture (picture 0) 65537 (66 ∷ []) []) ∷ []
unfolding is_match is_given is_asked mentions first_mention verdict is_noted audited flaw_of first_names names_of seen is_closed groups_found
title_read = refl

-- amy adds a picture, which gets the number of her stamp
abbrev add_picture : Event
add_picture = event.Ask 1 amy (ask.AddPicture (album 0) (66 ∷ []) [])

-- the stamps of what was read, of the last read first
abbrev stamps_read : List Event → List (Option (List ℕ))
stamps_read events =
    map (λ (read : Read). option_map (λ rows. map (λ (row : ReadVersion). row.stamp) rows) read.rows)
    (run_of (opening 1000) events).past.reads

-- the Commit to the album's partition is lost; bo reads the picture and the album, and both have the write
half_commit :
    stamps_read (
    add_picture ∷ delivers 1 20 ++ event.Deliver 22 ∷ event.Ask 2 bo (ask.Move (picture 65537) (album 0)) ∷ delivers
    24 8
    )
    ≡ Some (65537 ∷ 65537 ∷ []) ∷ Some (0 ∷ 0 ∷ 0 ∷ []) ∷ Some (0 ∷ []) ∷ []
unfolding is_match is_given is_asked mentions first_mention verdict is_noted audited flaw_of first_names names_of seen is_closed groups_found
half_commit = refl

-- a sweep comes between the two Prepares
aborted :
    answers 1000 (
    add_picture ∷ delivers 1 17 ++ event.Sweep 1 65537
    ∷ event.Deliver 20 ∷ event.Deliver 21 ∷ event.Deliver 18 ∷ event.Deliver 22 ∷ []
    )
    ≡ answer.Aborted 65537 ∷ []
unfolding is_match is_given is_asked mentions first_mention verdict is_noted audited flaw_of first_names names_of seen is_closed groups_found
aborted = refl

-- a partition of two marks is full after one write
unsettled : answers 2 (retitle ∷ delivers 1 20 ++ retitle ∷ delivers 21 18)
    ≡ answer.Committed 65537 ∷ answer.Unsettled 131073 refusal.Full ∷ []
unfolding is_match is_given is_asked mentions first_mention verdict is_noted audited flaw_of first_names names_of seen is_closed groups_found
unsettled = refl

-- bo may not give the picture another title
denied : answers 1000 (event.Ask 2 bo (ask.Retitle (picture 0) (66 ∷ [])) ∷ delivers 1 16)
    ≡ answer.Denied (record { object = picture 0; mask = WRITE_ATTRIBUTES; verdict = DeniedAtEnd } ∷ []) ∷ []
unfolding is_match is_given is_asked mentions first_mention verdict is_noted audited flaw_of first_names names_of seen is_closed groups_found
denied = refl

-- bo's read is overtaken by a write and a trim, and is made anew
gone : answers 1000 (
    event.Ask 2 bo (ask.Read (picture 0)) ∷ delivers 1 2 ++ retitle ∷ delivers 4 20
    ++ event.Trim 0 (picture 0) ∷ event.Trim 0 (picture 0) ∷ event.Deliver 3 ∷ delivers 24 17
    )
    ≡ answer.Committed 65537 ∷ answer.Served (served.Picture (picture 0) 65537 (66 ∷ []) []) ∷ []
unfolding is_match is_given is_asked mentions first_mention verdict is_noted audited flaw_of first_names names_of seen is_closed groups_found
gone = refl

-- ---- two writes that race

-- what is answered to writes that read the same, and of which the first is prepared first
abbrev raced : Bool → List Event → List Answer
raced checked asks =
    map (λ (given : PastAnswer). given.answer) (run_of (opening_with checked 1000) (asks ++ delivers 1 60)).past.answers

-- Amy gives the picture two other titles at once, by two clients. Where writes are checked, the second one is refused
-- at its Prepare, before the first is committed.
abbrev two_titles : List Event
two_titles = retitle ∷ event.Ask 2 amy (ask.Retitle (picture 0) (67 ∷ [])) ∷ []

both_titles : raced false two_titles ≡ answer.Committed 65537 ∷ answer.Committed 65538 ∷ []
unfolding is_match is_given is_asked mentions first_mention verdict is_noted audited flaw_of first_names names_of seen is_closed groups_found
both_titles = refl

one_title : raced true two_titles ≡ answer.Aborted 65538 ∷ answer.Committed 65537 ∷ []
unfolding is_match is_given is_asked mentions first_mention verdict is_noted audited flaw_of first_names names_of seen is_closed groups_found
one_title = refl

-- ---- the eighth read

-- bo's client, and its ask to read the picture, for which so many reads were made
abbrev reader : Client
reader = record (newcomer 2) { phase = Idle 15 }

abbrev asked : ℕ → PendingAsk
asked reads = record { viewing = record { ask = ask.Read (picture 0); reads = reads }; principal = bo }

-- the picture was read, and not its list
abbrev picture_alone : List ReadVersion
picture_alone = record {
  item = picture 0;
  stamp = 0;
  value = value.Picture (record { title = 83 ∷ []; content = []; head = head_with 0; home = 0 });
} ∷ []

seventh_gone : (read_transition (terms_of (opening 1000)) reader 15 (asked 6) (Gone (picture 0 ∷ []))).answer ≡ None
seventh_gone = refl

eighth_gone :
    (read_transition (terms_of (opening 1000)) reader 15 (asked 7) (Gone (picture 0 ∷ []))).answer ≡ Some (answer.Busy Rounds)
eighth_gone = refl

seventh_open : (read_transition (terms_of (opening 1000)) reader 15 (asked 6) (Done picture_alone)).answer ≡ None
unfolding first_names names_of seen is_closed
seventh_open = refl

eighth_open :
    (read_transition (terms_of (opening 1000)) reader 15 (asked 7) (Done picture_alone)).answer ≡ Some (answer.Busy Rounds)
unfolding first_names names_of seen is_closed
eighth_open = refl

-- ---- refusals

abbrev after : List Event → Now
after events = (run_of (opening 1000) events).now

abbrev refused : List Event → Event → Result Change Refusal
refused events event = change_of (terms_of (opening 1000)) (after events) event

busy : refused (retitle ∷ []) retitle ≡ Err refusal.ClientBusy
unfolding flaw_of
busy = refl

-- a client that never asked can be stopped, once
stopped : refused (event.Stop 1 ∷ []) (event.Stop 1) ≡ Err refusal.Stopped
stopped = refl

stopped_asks : refused (event.Stop 1 ∷ []) retitle ≡ Err refusal.Stopped
stopped_asks = refl

no_message : refused [] (event.Deliver 1) ≡ Err refusal.NoSuchMessage
no_message = refl

no_partition : refused [] (event.Sweep 3 65537) ≡ Err refusal.NoSuchPart
no_partition = refl

not_prepared : refused [] (event.Sweep 0 65537) ≡ Err refusal.NotPrepared
not_prepared = refl

no_owner : refused [] (event.Ask 1 principal.Anonymous (ask.AddAlbum (album 0) [])) ≡ Err refusal.NoOwner
unfolding flaw_of
no_owner = refl

elsewhere : refused [] (event.Trim 0 (album 0)) ≡ Err refusal.Clash
elsewhere = refl
