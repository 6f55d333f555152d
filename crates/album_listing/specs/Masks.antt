-- What an ask can need of an object (RFC 7530, section 6.2.1.3.1). Two needs may be one bit, as there.
use Rattle.album_access.specs.declared.masks.Mask.{Mask}

-- of a picture or a group
abbrev pub READ_DATA : Mask
READ_DATA = record { 0 = 0x1 }

abbrev pub WRITE_DATA : Mask
WRITE_DATA = record { 0 = 0x2 }

-- of an album
abbrev pub LIST_DIRECTORY : Mask
LIST_DIRECTORY = record { 0 = 0x1 }

abbrev pub ADD_FILE : Mask
ADD_FILE = record { 0 = 0x2 }

abbrev pub ADD_SUBDIRECTORY : Mask
ADD_SUBDIRECTORY = record { 0 = 0x4 }

abbrev pub DELETE_CHILD : Mask
DELETE_CHILD = record { 0 = 0x40 }

-- of each object
abbrev pub READ_ATTRIBUTES : Mask
READ_ATTRIBUTES = record { 0 = 0x80 }

abbrev pub WRITE_ATTRIBUTES : Mask
WRITE_ATTRIBUTES = record { 0 = 0x100 }

abbrev pub DELETE : Mask
DELETE = record { 0 = 0x10000 }

abbrev pub READ_ACL : Mask
READ_ACL = record { 0 = 0x20000 }

abbrev pub WRITE_ACL : Mask
WRITE_ACL = record { 0 = 0x40000 }

abbrev pub WRITE_OWNER : Mask
WRITE_OWNER = record { 0 = 0x80000 }
