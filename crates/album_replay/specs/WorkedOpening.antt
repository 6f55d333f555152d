-- The opening of the worked replays: one picture in one album, over three partitions.
use Rattle.std.specs.Prelude.{List, ◌++◌, ℕ, codes}

-- bo may read both; the header is given, and of the picture's list the first entry
abbrev pub trip_with : (header entry : List ℕ) → List ℕ
trip_with header entry =
    codes "{\"open\":" ++ header ++ codes "}\n"
    ++ codes "{\"item\":\"picture/0\",\"value\":{\"content\":\"736561\",\"group\":0,\"home\":0,\"list\":0,"
    ++ codes "\"owner\":\"amy@users\",\"title\":\"Sea\"}}\n"
    ++ codes "{\"item\":\"album/0\",\"value\":{\"children\":[\"picture/0\"],\"group\":0,\"home\":null,"
    ++ codes "\"list\":1,\"owner\":\"amy@users\",\"title\":\"Trip\"}}\n"
    ++ codes "{\"item\":\"list/0\",\"value\":{\"entries\":[" ++ entry ++ codes ",[\"allow\","
    ++ codes "\"EVERYONE@\",1,0]]}}\n"
    ++ codes "{\"item\":\"list/1\",\"value\":{\"entries\":[[\"allow\",\"OWNER@\",2032127,0],[\"allow\","
    ++ codes "\"EVERYONE@\",1,0]]}}\n"
    ++ codes "{\"begin\":true}\n"

-- whether each message is printed
abbrev pub trip_opened : (trace entry : List ℕ) → List ℕ
trip_opened trace entry =
    trip_with (codes "{\"limit\":1000,\"parts\":3,\"trace\":" ++ trace ++ codes "}") entry

-- eve is root
abbrev pub trip_rooted : (entry : List ℕ) → List ℕ
trip_rooted entry = trip_with (codes "{\"parts\":3,\"policy\":3,\"root\":\"eve@users\"}") entry

-- its owner may do all
abbrev pub owners_all : List ℕ
owners_all = codes "[\"allow\",\"OWNER@\",2032127,0]"
