use Rattle.album_views.specs.declared.asks.Ask.TheVariants as ask
use Rattle.album_listing.specs.Masks.{READ_DATA, WRITE_DATA, LIST_DIRECTORY, ADD_FILE, ADD_SUBDIRECTORY, READ_ATTRIBUTES, WRITE_ATTRIBUTES, READ_ACL, WRITE_ACL, WRITE_OWNER}
use Rattle.album_listing.specs.Reasons.{is_granted_on}
use Rattle.album_tests_laws.proofs.NeedsMet.{granted-where, just-met}
use Rattle.album_tests_laws.proofs.needing.an_ask_needs_its_right.Goals as goal

pub returns-clause-read : goal.returns-clause-read
returns-clause-read c basis object =
    granted-where basis (ask.Read object) (is_granted_on basis object READ_DATA) (just-met basis object READ_DATA)

pub returns-clause-listed : goal.returns-clause-listed
returns-clause-listed c basis into =
    granted-where basis (ask.List into) (is_granted_on basis into LIST_DIRECTORY) (just-met basis into LIST_DIRECTORY)

pub returns-clause-entries : goal.returns-clause-entries
returns-clause-entries c basis object =
    granted-where basis (ask.GetList object) (is_granted_on basis object READ_ACL) (just-met basis object READ_ACL)

pub returns-clause-head : goal.returns-clause-head
returns-clause-head c basis object =
    granted-where basis (ask.Head object) (is_granted_on basis object READ_ATTRIBUTES) (just-met basis object READ_ATTRIBUTES)

pub returns-clause-children : goal.returns-clause-children
returns-clause-children c basis into =
    granted-where basis (ask.Children into) (is_granted_on basis into LIST_DIRECTORY) (just-met basis into LIST_DIRECTORY)

pub returns-clause-group : goal.returns-clause-group
returns-clause-group c basis into members =
    granted-where basis (ask.AddGroup into members) (is_granted_on basis into WRITE_ACL) (just-met basis into WRITE_ACL)

pub returns-clause-picture : goal.returns-clause-picture
returns-clause-picture c basis into title content =
    granted-where basis (ask.AddPicture into title content) (is_granted_on basis into ADD_FILE) (just-met basis into ADD_FILE)

pub returns-clause-album : goal.returns-clause-album
returns-clause-album c basis into title =
    granted-where basis (ask.AddAlbum into title) (is_granted_on basis into ADD_SUBDIRECTORY) (just-met basis into ADD_SUBDIRECTORY)

pub returns-clause-title : goal.returns-clause-title
returns-clause-title c basis object title =
    granted-where basis (ask.Retitle object title) (is_granted_on basis object WRITE_ATTRIBUTES) (just-met basis object WRITE_ATTRIBUTES)

pub returns-clause-content : goal.returns-clause-content
returns-clause-content c basis object content =
    granted-where basis (ask.Replace object content) (is_granted_on basis object WRITE_DATA) (just-met basis object WRITE_DATA)

pub returns-clause-owner : goal.returns-clause-owner
returns-clause-owner c basis object number owner =
    granted-where basis (ask.SetOwner object owner number) (is_granted_on basis object WRITE_OWNER) (just-met basis object WRITE_OWNER)

pub returns-clause-members : goal.returns-clause-members
returns-clause-members c basis object members =
    granted-where basis (ask.SetMembers object members) (is_granted_on basis object WRITE_DATA) (just-met basis object WRITE_DATA)
