use Rattle.album_partition.proofs.partition.Partition.on_request.Goals as goal

pub returns-in-Get : goal.returns-in-Get
returns-in-Get c = rw c.in-Get.is c.on_get.ensures
