mod DrawLaws
mod OpenedMachines
