-- What an ask says whose shape is known: the values of its fields, read in this order, or the first refusal.
use Rattle.std.specs.Prelude.{Result, Ok}
use Rattle.album_stamps.specs.declared.refusals.Refusal.{Refusal}
use Rattle.album_stamps.specs.Outcome.{◌>>=◌}
use Rattle.album_views.specs.declared.asks.Ask.{Ask}
use Rattle.album_views.specs.declared.asks.Ask.TheVariants as ask
use Rattle.album_views.specs.declared.asks.NewList.{NewList}
use Rattle.album_views.specs.declared.asks.NewMembership.{NewMembership}
use Rattle.album_lines.specs.Values.{each_of, entries_read, members_read}
use Rattle.album_wire.specs.ItemTexts.{owner_read, title_read, content_read}
use Rattle.album_wire.specs.AskShape.{SpelledNewList, SpelledNewMembership, SpelledAsk, Read, ListAlbum, GetList, Head, Children, AddPicture, AddAlbum, AddGroup, Retitle, Replace, Delete, Move, SetLists, SetOwner, SetMembers, Share}

unfoldable pub new_list_read : SpelledNewList → Result NewList Refusal
new_list_read new = do
  list ← entries_read new.entries
  Ok (record { object = new.object; list = list })

unfoldable pub new_membership_read : SpelledNewMembership → Result NewMembership Refusal
new_membership_read new = do
  members ← members_read new.members
  Ok (record { object = new.object; members = members })

unfoldable pub ask_read : SpelledAsk → Result Ask Refusal
ask_read (Read object) = Ok (ask.Read object)
ask_read (ListAlbum album) = Ok (ask.List album)
ask_read (GetList object) = Ok (ask.GetList object)
ask_read (Head object) = Ok (ask.Head object)
ask_read (Children album) = Ok (ask.Children album)
ask_read (AddPicture album title content) = do
  title ← title_read title
  content ← content_read content
  Ok (ask.AddPicture album title content)
ask_read (AddAlbum album title) = do
  title ← title_read title
  Ok (ask.AddAlbum album title)
ask_read (AddGroup album members) = do
  members ← members_read members
  Ok (ask.AddGroup album members)
ask_read (Retitle object title) = do
  title ← title_read title
  Ok (ask.Retitle object title)
ask_read (Replace object content) = do
  content ← content_read content
  Ok (ask.Replace object content)
ask_read (Delete object) = Ok (ask.Delete object)
ask_read (Move object to) = Ok (ask.Move object to)
ask_read (SetLists lists) = do
  lists ← each_of new_list_read lists
  Ok (ask.SetLists lists)
ask_read (SetOwner object owner group) = do
  owner ← owner_read owner
  Ok (ask.SetOwner object owner group)
ask_read (SetMembers object members) = do
  members ← members_read members
  Ok (ask.SetMembers object members)
ask_read (Share lists members) = do
  lists ← each_of new_list_read lists
  members ← each_of new_membership_read members
  Ok (ask.Share lists members)
