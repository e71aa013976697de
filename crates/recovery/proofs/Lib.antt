mod StartRecords
