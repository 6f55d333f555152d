use Rattle.std.proofs.Common.{rules}
use Rattle.std.proofs.lemmas.List.Elements.{same_from_all_zip}
use Rattle.album_calls.proofs.messages.BodyClone.clone.Goals as goal

pub returns-in_ok-clone-in-Reply : goal.returns-in_ok-clone-in-Reply
returns-in_ok-clone-in-Reply c = search (rules, same_from_all_zip)
