mod AddedFiles
mod FilePieces
mod Shows
