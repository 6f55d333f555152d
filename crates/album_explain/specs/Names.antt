-- What bits are called.
use Rattle.std.specs.Prelude.{ℕ, List, codes, ◌==◌, if◌then◌else◌}
use Rattle.album_lists.specs.declared.lists.Holder.{Holder}
use Rattle.album_lists.specs.declared.lists.Holder.TheVariants.{Plain, Folder}

-- the name of a bit on an object, of whose table it has this name: the three lowest have others on an album
abbrev pub bit_name : Holder → List ℕ → ℕ → List ℕ
bit_name Plain name value = name
bit_name Folder name value =
    if value == 1 then codes "LIST_DIRECTORY"
    else if value == 2 then codes "ADD_FILE"
    else if value == 4 then codes "ADD_SUBDIRECTORY"
    else name
